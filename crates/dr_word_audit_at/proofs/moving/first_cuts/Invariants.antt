use Rattle.dr_plan_model.specs.Networks.{Network}
use Rattle.dr_word_audit_at.specs.Cuts.{AreReached}
use Rattle.dr_word_audit_at.proofs.moving.first_cuts.Given as goal

abbrev pub invariant-loop-round : goal.invariant-loop-round
invariant-loop-round l = (plan : Network) → AreReached plan l.fn.read l.fn.first l.counts.items
