use Rattle.std.proofs.Common.{◌≡◌, take}
use Rattle.dr_word_audit.specs.Names.{our_names}
use Rattle.dr_word_audit.proofs.naming.our_names.Given as goal

abbrev pub invariant-loop-node : goal.invariant-loop-node
invariant-loop-node l = l.names.items ≡ our_names l.fn.others (take l.node-index l.fn.plan.nodes)
