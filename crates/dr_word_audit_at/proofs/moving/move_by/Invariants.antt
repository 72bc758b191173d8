use Rattle.dr_plan_model.specs.Networks.{Network}
use Rattle.dr_word_audit_at.specs.Cuts.{AreReached}
use Rattle.dr_word_audit_at.proofs.moving.move_by.Given as goal

abbrev pub invariant-loop-place : goal.invariant-loop-place
invariant-loop-place l = (plan : Network) → AreReached plan l.fn.read l.initial.counts.items l.counts.items
