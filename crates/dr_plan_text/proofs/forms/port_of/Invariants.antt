use Rattle.dr_plan_text.proofs.Ports.{Counted}
use Rattle.dr_plan_text.proofs.forms.port_of.Given as goal

abbrev pub invariant-loop-digit : goal.invariant-loop-digit
invariant-loop-digit l = Counted l.digits l.digit-index l.port
