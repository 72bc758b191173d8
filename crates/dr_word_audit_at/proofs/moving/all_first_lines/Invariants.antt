use Rattle.std.proofs.Common.{take}
use Rattle.dr_word_audit_at.specs.Firsts.{AreAllFirst}
use Rattle.dr_word_audit_at.proofs.moving.all_first_lines.Given as goal

abbrev pub invariant-loop-node : goal.invariant-loop-node
invariant-loop-node l = AreAllFirst l.all.items (take l.node-index l.fn.read)
