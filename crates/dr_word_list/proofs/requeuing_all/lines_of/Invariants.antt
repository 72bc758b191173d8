use Rattle.std.proofs.Common.{◌≡◌, take}
use Rattle.std.specs.Prelude.{flat_map}
use Rattle.dr_word_list.specs.Requeuings.{uid_line}
use Rattle.dr_word_list.proofs.requeuing_all.lines_of.Given as goal

abbrev pub invariant-loop-uid : goal.invariant-loop-uid
invariant-loop-uid l = l.out.items ≡ flat_map uid_line (take l.uid-index l.fn.uids)
