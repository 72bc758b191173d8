-- A node that was seen to be the one that is meant, and what it is told then.
use Rattle.std.proofs.Common.{◌≡◌, Ok, Err, Result, inl, inr, refl, ap, ◌∙◌, ◌⊎◌}
use Rattle.std.specs.Prelude.{IfOk, IfErr, Some, codes}
use Rattle.serde_json.specs.Data.{Data}
use Rattle.dr_base.specs.Texts.{Text}
use Rattle.dr_run_ask.specs.Conversations.{IsDone, IsSeen, OnlyReads, Refuses, Sees, Tells, TellsSeen, name_told}
use Rattle.dr_run_ask.specs.Lines.{FirstLineIs, text_at}
use Rattle.dr_run_ask.specs.declared.answer.HttpAnswer.{HttpAnswer}
use Rattle.dr_run_ask.specs.declared.call.HttpCall.{HttpCall}
use Rattle.dr_run_ask.specs.declared.call.HttpCall.TheVariants.{Status}
use Rattle.dr_run_ask.specs.declared.fault.AskFault.{AskFault}
use Rattle.dr_run_ask.specs.declared.fault.AskFault.TheVariants as faults
use Rattle.dr_run_ask.proofs.Chains.{reads_one}

-- a fault by the name that the answer has for it
pub refuses : (answer : HttpAnswer) (value : Data) (name given : Text) (fault : AskFault) → FirstLineIs answer.body.items value → text_at (codes "fault") value ≡ Some name → given ≡ name
    → (fault ≡ faults.NoNodesAnswer) ⊎ (name_told fault ≡ Some given) → Refuses answer fault
refuses answer value name given fault begins says same (inl is) = inl is
refuses answer value name given fault begins says same (inr told) = inr (name, told ∙ ap Some same, (value, begins, says))

module _ {S : Type 0} (answers : S → HttpCall → Result HttpAnswer AskFault → S → Type 0) where
  -- what it was told is done, where the answer says so
  pub seen_told : (call : HttpCall) (old new : S) (answer : HttpAnswer) (r : Result (Unit {0}) AskFault) → answers old call (Ok answer) new → IfOk r (λ _. IsDone answer) → IfErr r (Refuses answer)
      → TellsSeen answers call old r new
  seen_told call old new answer (Ok done) h is_done refused = (answer, h, is_done)
  seen_told call old new answer (Err fault) h is_done refused = inr (answer, h, refused)

  pub told : (name digest : Text) (call : HttpCall) (old mid new : S) (seen : HttpAnswer) (r : Result (Unit {0}) AskFault) → IsSeen answers name digest old seen mid → TellsSeen answers call mid r new
      → Tells answers name digest call old r new
  told name digest call old mid new seen (Ok done) is (answer, h, is_done) = (answer, (seen, mid, is, h), is_done)
  told name digest call old mid new seen (Err fault) is (inl h) = inr (inl (seen, mid, is, h))
  told name digest call old mid new seen (Err fault) is (inr (answer, h, refused)) = inr (inr (answer, (seen, mid, is, h), refused))

  -- whoever sees a node only reads
  pub seeing_reads : (name digest : Text) (old new : S) (r : Result HttpAnswer AskFault) → Sees answers name digest old r new → OnlyReads answers old new
  seeing_reads name digest old new (Ok answer) h = reads_one answers Status (Ok answer) old new refl h.0
  seeing_reads name digest old new (Err fault) h = reads_one answers Status h.0 old new refl h.1
