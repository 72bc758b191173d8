use Rattle.std.proofs.Common.{◌≡◌, ◌≢◌, refl, subst, Ok}
use Rattle.dr_base.specs.Texts.{Text}
use Rattle.dr_plan_model.specs.Networks.{Network}
use Rattle.dr_check.specs.Answering.{Judges}
use Rattle.dr_check.specs.Shown.{IsTooLarge}
use Rattle.dr_check.specs.declared.verdict.Verdict.TheVariants.{No}
use Rattle.dr_certify.specs.Laws.{NoPlanHasBoth}
use Rattle.dr_certify.specs.declared.certificate.Refusal.TheVariants as refusal
use Rattle.dr_run_open.specs.declared.answer.PlanAnswer.{PlanAnswer}
use Rattle.dr_run_open.specs.declared.answer.PlanAnswer.TheVariants.{Sound, Unsound, NoPlan, TooLarge, Memory}
use Rattle.dr_word_check.specs.Answers.{IsAnswerTo, IsCertifiedText}
use Rattle.dr_word_check.proofs.Read.{read_once, unread}
use Rattle.dr_word_check.proofs.laws.certified_texts_are_sound.Goals as goal

sound : NoPlanHasBoth → (text output : Text) → IsCertifiedText text output → (answer : PlanAnswer) → IsAnswerTo text answer → answer ≢ Memory →
    (printed : Text) × (answer ≡ Sound printed)
sound none text output it (Sound printed) is some = (printed, refl)
sound none text output it (Unsound printed why) is some =
    let P : Network → Type 0 = λ n. Judges n (No is.fault) in
    absurd (none it.plan output it.has (refusal.Unsound is.fault, (λ e. cc e), subst P (read_once text is.plan it.plan is.reads it.reads) is.judged))
sound none text output it (NoPlan fault place) is some = absurd (unread text it.plan fault is.1 it.reads is.0)
sound none text output it TooLarge is some =
    let P : Network → Type 0 = λ n. IsTooLarge n in
    absurd (none it.plan output it.has (refusal.TooLarge, (λ e. cc e), subst P (read_once text is.0 it.plan is.1 it.reads) is.2))
sound none text output it Memory is some = absurd (some refl)

pub returns : goal.returns
returns c = sound c.no_plan_has_both.ensures
