use Rattle.std.proofs.Common.{◌≡◌, drop}
use Rattle.dr_word_audit.specs.Places.{lines_named}
use Rattle.dr_word_audit.proofs.placing.lines_of.Given as goal

abbrev pub invariant-loop-node : goal.invariant-loop-node
invariant-loop-node l = lines_named l.fn.name l.fn.nodes ≡ lines_named l.fn.name (drop l.node-index l.fn.nodes)
