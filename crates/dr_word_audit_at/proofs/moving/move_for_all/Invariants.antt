use Rattle.dr_plan_model.specs.Networks.{Network}
use Rattle.dr_word_audit_at.specs.Cuts.{AreReached}
use Rattle.dr_word_audit_at.proofs.moving.move_for_all.Given as goal

abbrev pub invariant-loop-line : goal.invariant-loop-line
invariant-loop-line l = (plan : Network) → AreReached plan l.fn.read l.initial.counts.items l.counts.items
