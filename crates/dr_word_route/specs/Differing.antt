-- What is answered where another plan is to be compared with a sealed one.
use Rattle.std.specs.Prelude.{◌≡◌, ◌⊎◌, List, ℕ, [], Bool, IsTrue, Ok, flat_map}
use Rattle.std.specs.declared.option.Option.{Option}
use Rattle.std.specs.Io.KnownBytes.{Appends}
use Rattle.dr_base.specs.Texts.{Text}
use Rattle.dr_plan_model.specs.Networks.{Network}
use Rattle.dr_plan.specs.Reading.{Reads}
use Rattle.dr_plan_sound.specs.Certificates.{IsCertificateOf}
use Rattle.dr_plan_sound.specs.Soundness.{IsSound}
use Rattle.dr_plan_sound.specs.declared.certificate.Certificate.{Certificate}
use Rattle.dr_run_open.specs.Answers.{Refuses}
use Rattle.dr_run_open.specs.Sealings.{IsTextOf}
use Rattle.dr_run_open.specs.declared.status.Status.{Status}
use Rattle.dr_run_open.specs.declared.status.Status.TheVariants.{Success, Refused, Memory}
use Rattle.dr_word_line.specs.declared.words.NextPlan.{NextPlan}
use Rattle.dr_cert_diff.specs.Differing.{IsDiff, LosesSome}
use Rattle.dr_cert_diff.specs.Rows.{change_rows}
use Rattle.dr_cert_diff.specs.declared.change.RouteChange.{RouteChange}
use Rattle.dr_word_route.specs.Unsealing.{AnswersUnsealed}

-- the lines of the changes are printed, and the program ends with success; refused, where some node
-- is lost and that is to be a no
pub record TellsChanges (changes : List RouteChange) (fails : Bool) (old new : Option (List ℕ))
    (status : Status) : Type 0 where
  pub printed : Appends old new (flat_map change_rows changes)
  pub no : IsTrue fails → LosesSome changes → status ≡ Refused
  pub yes : (IsTrue fails → LosesSome changes → ⊥) → status ≡ Success

-- what changes from one plan to the next is told, or there was no memory for it
abbrev pub Differs : Network → Network → Bool → Option (List ℕ) → Option (List ℕ) → Status → Type 0
Differs plan next fails old new status =
    ((changes : List RouteChange)
    × IsDiff plan next changes
    × TellsChanges changes fails old new status)
    ⊎ (Appends old new [] × (status ≡ Memory))

-- a run in which the text is that of the certificate of the next plan, which is sound
pub record SealsNext (plan next : Network) (text : Text) (fails : Bool) (old new : Option (List ℕ))
    (status : Status) : Type 0 where
  pub certificate : Certificate
  pub written : IsTextOf text certificate
  pub sound : IsSound next
  pub own : IsCertificateOf next certificate
  pub differs : Differs plan next fails old new status

-- a run for a text that has a plan: another text, which the file of its certificate holds, is
-- refused as its certificate or is it
pub record JudgesNext (Holds : List ℕ → Text → Type 0) (plan : Network) (paths : NextPlan)
    (text : Text) (old new : Option (List ℕ)) (status : Status) : Type 0 where
  pub next : Network
  pub reads : Reads text (Ok next)
  pub second : Text
  pub held : Holds paths.certificate.now second
  pub judged : AnswersUnsealed next second old new status
      ⊎ SealsNext plan next second paths.fails_on_lost old new status

-- a run on what changes from a sealed plan to that of another file: its text has no plan, or it
-- goes on to the certificate
abbrev pub Compares : (List ℕ → Text → Type 0) → Network → NextPlan → Option (List ℕ)
    → Option (List ℕ) → Status → Type 0
Compares Holds plan paths old new status =
    (text : Text) × Holds paths.plan.now text
    × (Refuses text old new status ⊎ JudgesNext Holds plan paths text old new status)
