-- What a text comes to, where its plan comes to it.
use Rattle.std.proofs.Common.{Ok, Err, IfOk, Some, None, inr}
use Rattle.std.specs.Prelude.{Result}
use Rattle.std.specs.declared.option.Option.{Option}
use Rattle.dr_base.specs.Texts.{Text}
use Rattle.dr_plan_model.specs.Networks.{Network}
use Rattle.dr_plan_core.specs.Reading.{ReadsCore}
use Rattle.dr_certify.specs.Certified.{FindsCertificate, FindsOf}

pub found : (text : Text) (plan : Network) (it : Option Text) → ReadsCore text (Ok plan) → FindsOf plan it → FindsCertificate text it
found text plan (Some output) reads is = record { plan = plan; reads = reads; format = is.0; has = is.1 }
found text plan None reads is = inr (plan, reads, is)

-- and so where that may want memory
pub each : {E : Type 0} (text : Text) (plan : Network) (came : Result (Option Text) E) → ReadsCore text (Ok plan) → IfOk came (FindsOf plan) → IfOk came (FindsCertificate text)
each text plan (Ok it) reads is = found text plan it reads is
each text plan (Err e) reads is = tt
