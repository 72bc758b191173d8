use Rattle.std.proofs.Common.{◌≡◌, ◌++◌, length}
use Rattle.std.specs.Vec.Iter.{into_iter_items}
use Rattle.dr_word_audit_at.proofs.Joining.{AreCut}
use Rattle.dr_word_audit_at.proofs.cutting.cut_all.Given as goal

abbrev pub invariant-loop-node : goal.invariant-loop-node
invariant-loop-node l = (l.fn.read.items ≡ l.yielded ++ into_iter_items l.node-iterator) × AreCut l.counts l.yielded l.journals.items l.rests.items
