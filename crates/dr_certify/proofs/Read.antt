-- A text writes one plan at most as it stands.
use Rattle.std.proofs.Common.{◌≡◌, ◌≢◌, ap, Ok, Err}
use Rattle.std.specs.Prelude.{Result}
use Rattle.dr_base.specs.Texts.{Text}
use Rattle.dr_plan_model.specs.Networks.{Network}
use Rattle.dr_plan_core.specs.Reading.{ReadsCore}
use Rattle.dr_plan_core.specs.declared.fault.PlanFault.{PlanFault}
use Rattle.dr_plan_core.specs.declared.fault.PlanFault.TheVariants.{Memory as NoMemory}
use Rattle.dr_plan_core.proofs.OneAnswer.{one_core_answer}

abbrev plan_or : Network → Result Network PlanFault → Network
plan_or other (Ok plan) = plan
plan_or other (Err fault) = other

pub read_once : (text : Text) (a b : Network) → ReadsCore text (Ok a) → ReadsCore text (Ok b) → a ≡ b
read_once text a b x y =
    let none : (n : Network) → (let r : Result Network PlanFault = Ok n in r) ≢ Err NoMemory = λ n e. cc e in
    ap (plan_or a) (one_core_answer text (Ok a) (Ok b) (none a) (none b) x y)
