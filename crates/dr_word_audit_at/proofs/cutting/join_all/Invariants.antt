use Rattle.std.proofs.Common.{◌≡◌, ◌++◌}
use Rattle.std.specs.Vec.Iter.{into_iter_items}
use Rattle.dr_word_audit_at.specs.Cuts.{joined, rests_of}
use Rattle.dr_word_audit_at.proofs.cutting.join_all.Given as goal

abbrev pub invariant-loop-node : goal.invariant-loop-node
invariant-loop-node l = l.nodes.items ++ joined (into_iter_items l.node-iterator) (rests_of (into_iter_items l.rests)) ≡ joined l.fn.cut.journals.items (rests_of l.fn.cut.rests.items)
