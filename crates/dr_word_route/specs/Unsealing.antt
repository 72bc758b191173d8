-- What a run does where a text isn't the certificate of a plan.
use Rattle.std.specs.Prelude.{◌≡◌, ◌≢◌, ℕ, List, []}
use Rattle.std.specs.declared.option.Option.{Option}
use Rattle.std.specs.Io.KnownBytes.{Appends}
use Rattle.dr_base.specs.Texts.{Text}
use Rattle.dr_plan_model.specs.Networks.{Network}
use Rattle.dr_cert.specs.declared.fault.CertFault.{CertFault}
use Rattle.dr_cert.specs.declared.fault.CertFault.TheVariants.{Memory as NoMemory}
use Rattle.dr_run_open.specs.Sealings.{IsFaultOf}
use Rattle.dr_run_open.specs.declared.status.Status.{Status}
use Rattle.dr_run_open.specs.declared.status.Status.TheVariants.{Refused as No, Memory}

-- a run in which the text is refused as the plan's certificate, or memory ran out over it: nothing
-- is printed
pub record AnswersUnsealed (plan : Network) (text : Text) (old new : Option (List ℕ))
    (status : Status) : Type 0 where
  pub fault : CertFault
  pub right : (fault ≢ NoMemory) → IsFaultOf plan text fault × (status ≡ No)
  pub memory : fault ≡ NoMemory → status ≡ Memory
  pub nothing : Appends old new []
