use Rattle.std.proofs.Common.{◌≡◌, ◌≢◌, subst, inl, inr, Ok, Err, None}
use Rattle.std.specs.Prelude.{Result}
use Rattle.dr_base.specs.Texts.{Text}
use Rattle.dr_plan_model.specs.Networks.{Network}
use Rattle.dr_plan_core.specs.Reading.{ReadsCore}
use Rattle.dr_plan_core.specs.declared.fault.PlanFault.{PlanFault}
use Rattle.dr_plan_core.specs.declared.fault.PlanFault.TheVariants.{Memory as NoMemory}
use Rattle.dr_plan_core.proofs.OneAnswer.{one_core_answer}
use Rattle.dr_certify.specs.Certified.{IsCertifiedCore, FindsOf}
use Rattle.dr_certify.specs.Laws.{NoPlanHasBoth}
use Rattle.dr_certify.proofs.Read.{read_once}
use Rattle.dr_certify.proofs.laws.no_text_has_both.Goals as goal

unread : (text : Text) (plan : Network) (fault : PlanFault) → fault ≢ NoMemory → ReadsCore text (Ok plan) → ReadsCore text (Err fault) → ⊥
unread text plan fault apart reads fails =
    let read : Result Network PlanFault = Ok plan in
    let refused : Result Network PlanFault = Err fault in
    let none : read ≢ Err NoMemory = λ e. cc e in
    let other : refused ≢ Err NoMemory = λ e. apart (cc e) in
    let same : read ≡ refused = one_core_answer text read refused none other reads fails in
    cc same

found : NoPlanHasBoth → (text output : Text) → IsCertifiedCore text output → (plan : Network) → ReadsCore text (Ok plan) → FindsOf plan None → ⊥
found no_both text output it plan reads none =
    let P : Network → Type 0 = λ n. FindsOf n None in
    let same : plan ≡ it.plan = read_once text plan it.plan reads it.reads in
    elim (subst P same none) [
      | inl third ↦ it.format third
      | inr refused ↦ no_both it.plan output it.has refused
    ]

pub returns : goal.returns
returns c = λ text output it none. elim none [
  | inl fault ↦ unread text it.plan fault.0 fault.1 it.reads fault.2
  | inr one ↦ found c.no_plan_has_both.ensures text output it one.0 one.1 one.2
]
