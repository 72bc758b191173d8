-- A text writes one plan at most.
use Rattle.std.proofs.Common.{◌≡◌, ◌≢◌, ap, Ok, Err}
use Rattle.std.specs.Prelude.{Result}
use Rattle.dr_base.specs.Texts.{Text}
use Rattle.dr_plan_model.specs.Networks.{Network}
use Rattle.dr_plan_core.specs.declared.fault.PlanFault.{PlanFault}
use Rattle.dr_plan_core.specs.declared.fault.PlanFault.TheVariants.{Memory as NoMemory}
use Rattle.dr_plan.specs.Reading.{Reads}
use Rattle.dr_plan.proofs.OneReading.{one_answer}

abbrev plan_or : Network → Result Network PlanFault → Network
plan_or other (Ok plan) = plan
plan_or other (Err fault) = other

pub read_once : (text : Text) (a b : Network) → Reads text (Ok a) → Reads text (Ok b) → a ≡ b
read_once text a b x y =
    let none : (n : Network) → (let r : Result Network PlanFault = Ok n in r) ≢ Err NoMemory = λ n e. cc e in
    ap (plan_or a) (one_answer text (Ok a) (Ok b) (none a) (none b) x y)

-- and none where it has a fault, want of memory aside
pub unread : (text : Text) (plan : Network) (fault : PlanFault) → fault ≢ NoMemory → Reads text (Ok plan) → Reads text (Err fault) → ⊥
unread text plan fault apart reads fails =
    let read : Result Network PlanFault = Ok plan in
    let refused : Result Network PlanFault = Err fault in
    let none : read ≢ Err NoMemory = λ e. cc e in
    let other : refused ≢ Err NoMemory = λ e. apart (cc e) in
    let same : read ≡ refused = one_answer text read refused none other reads fails in
    cc same
