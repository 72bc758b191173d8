use Rattle.std.proofs.Common.{◌≡◌, take}
use Rattle.dr_word_list.specs.Requeuings.{held_in}
use Rattle.dr_word_list.proofs.requeuing_all.held_in.Given as goal

abbrev pub invariant-loop-row : goal.invariant-loop-row
invariant-loop-row l = l.uids.items ≡ held_in (take l.row-index l.fn.rows) l.fn.dest
