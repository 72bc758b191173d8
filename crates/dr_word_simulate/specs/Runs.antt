-- What a run of `simulate` does.
use Rattle.std.specs.Prelude.{◌≡◌, ◌≢◌, ◌⊎◌, ℕ, List, [], Ok}
use Rattle.std.specs.declared.option.Option.{Option}
use Rattle.std.specs.Io.KnownBytes.{Appends}
use Rattle.dr_base.specs.Texts.{Text}
use Rattle.dr_plan_model.specs.Networks.{Network}
use Rattle.dr_plan.specs.Reading.{Reads}
use Rattle.dr_plan_sound.specs.Certificates.{IsCertificateOf}
use Rattle.dr_plan_sound.specs.Soundness.{IsSound}
use Rattle.dr_plan_sound.specs.declared.certificate.Certificate.{Certificate}
use Rattle.dr_cert.specs.declared.fault.CertFault.{CertFault}
use Rattle.dr_cert.specs.declared.fault.CertFault.TheVariants.{Memory as NoMemory}
use Rattle.dr_run_open.specs.Answers.{Refuses}
use Rattle.dr_run_open.specs.Sealings.{IsFaultOf, IsTextOf}
use Rattle.dr_run_open.specs.declared.status.Status.{Status}
use Rattle.dr_run_open.specs.declared.status.Status.TheVariants.{Refused, Memory}
use Rattle.dr_word_simulate.specs.Outcomes.{IsOutcomeOf, printed_for, status_for}
use Rattle.dr_word_simulate.specs.declared.outcome.PlayOutcome.{PlayOutcome}

-- a run for a sealed plan: the outcome of the script is printed after what the output held, and the
-- program ends with its status
pub record Plays (Holds : Text → Text → Type 0) (plan : Network) (certificate : Certificate)
    (script : Text) (old new : Option (List ℕ)) (status : Status) : Type 0 where
  pub outcome : PlayOutcome
  pub right : IsOutcomeOf Holds plan certificate script outcome
  pub printed : Appends old new (printed_for outcome)
  pub ends : status ≡ status_for outcome

-- a run in which the text is refused as the plan's certificate, or memory ran out over it: nothing
-- is printed
pub record PlaysUnsealed (plan : Network) (text : Text) (old new : Option (List ℕ))
    (status : Status) : Type 0 where
  pub fault : CertFault
  pub right : (fault ≢ NoMemory) → IsFaultOf plan text fault × (status ≡ Refused)
  pub memory : fault ≡ NoMemory → status ≡ Memory
  pub nothing : Appends old new []

-- a run in which the text is that of the certificate of a sound plan: the script that the file of
-- this path holds is played
pub record PlaysSealed (Holds : Text → Text → Type 0) (path : Text) (plan : Network) (text : Text)
    (old new : Option (List ℕ)) (status : Status) : Type 0 where
  pub certificate : Certificate
  pub written : IsTextOf text certificate
  pub sound : IsSound plan
  pub own : IsCertificateOf plan certificate
  pub script : Text
  pub held : Holds path script
  pub plays : Plays Holds plan certificate script old new status

-- a run for a text that has a plan: the text that the second file holds is refused as its
-- certificate or is it
pub record JudgesAndPlays (Holds : Text → Text → Type 0) (path script text : Text)
    (old new : Option (List ℕ)) (status : Status) : Type 0 where
  pub plan : Network
  pub reads : Reads text (Ok plan)
  pub second : Text
  pub held : Holds path second
  pub judged : PlaysUnsealed plan second old new status
      ⊎ PlaysSealed Holds script plan second old new status

-- A run of `simulate`: the first text has no plan, or it goes on to the certificate and the script.
-- `Holds` says of a path and a text that the file of this path holds it.
abbrev pub Simulates : (Text → Text → Type 0) → Text → Text → Text → Option (List ℕ)
    → Option (List ℕ) → Status → Type 0
Simulates Holds certificate script text old new status =
    Refuses text old new status ⊎ JudgesAndPlays Holds certificate script text old new status
