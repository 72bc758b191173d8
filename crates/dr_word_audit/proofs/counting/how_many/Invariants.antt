use Rattle.std.proofs.Common.{◌≡◌, ◌≤◌, take}
use Rattle.dr_word_audit.specs.Telling.{number_told}
use Rattle.dr_word_audit.proofs.counting.how_many.Given as goal

abbrev pub invariant-loop-line : goal.invariant-loop-line
invariant-loop-line l = (l.count ≡ number_told l.fn.sort l.fn.others (take l.line-index l.fn.lines)) × (l.count ≤ l.line-index)
