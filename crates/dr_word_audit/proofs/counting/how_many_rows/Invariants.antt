use Rattle.std.proofs.Common.{◌≡◌, ◌≤◌, take}
use Rattle.dr_word_audit.specs.Figures.{how_many_at}
use Rattle.dr_word_audit.proofs.counting.how_many_rows.Given as goal

abbrev pub invariant-loop-row : goal.invariant-loop-row
invariant-loop-row l = (l.count ≡ how_many_at l.fn.stage (take l.row-index l.fn.rows)) × (l.count ≤ l.row-index)
