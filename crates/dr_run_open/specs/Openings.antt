-- How a word comes to a node: the plan, its certificate, the node's site and its ledger.
use Rattle.std.specs.Prelude.{◌≡◌, ◌≢◌, Bool, true, false, Option, None, Some, Result, Ok, Err}
use Rattle.dr_base.specs.Texts.{Text}
use Rattle.dr_cert.specs.Sealing.{Certified}
use Rattle.dr_cert.specs.declared.fault.CertFault.{CertFault}
use Rattle.dr_cert.specs.declared.fault.CertFault.TheVariants.{Memory as NoMemory}
use Rattle.dr_run_open.specs.Answers.{IsNoPlan}
use Rattle.dr_run_open.specs.Sealings.{IsFaultOf, IsTextOf}
use Rattle.dr_plan_model.specs.Networks.{Network}
use Rattle.dr_plan_model.specs.Plans.{NamesNoNode}
use Rattle.dr_plan.specs.Reading.{Reads}
use Rattle.dr_site.specs.Parts.{Part, IsPartOf}
use Rattle.dr_plan_sound.specs.Certificates.{IsCertificateOf}
use Rattle.dr_plan_sound.specs.Soundness.{IsSound}
use Rattle.dr_run_open.specs.declared.ledgers.Making.{Making}
use Rattle.dr_run_open.specs.declared.ledgers.Making.TheVariants as making
use Rattle.dr_run_open.specs.declared.ledgers.OpenFault.{OpenFault}
use Rattle.dr_run_open.specs.declared.ledgers.OpenFault.TheVariants as opening
use Rattle.dr_run_open.specs.declared.halt.Halt.{Halt}
use Rattle.dr_run_open.specs.declared.halt.Halt.TheVariants.{NoPlan, NoCertificate, NoNode}
use Rattle.dr_run_open.specs.declared.halt.Halt.TheVariants.{NotOpened, NoInstance, Refused}
use Rattle.dr_run_open.specs.declared.halt.Halt.TheVariants.{Receipt, Failed, Memory}

-- a sound plan with its certificate, written by two texts of which these hold
pub record IsSealedBy (HoldsPlan HoldsCertificate : Text → Type 0)
    (sealed : Certified) : Type 0 where
  pub text : Text
  pub held : HoldsPlan text
  pub reads : Reads text (Ok sealed.plan)
  pub second : Text
  pub held_second : HoldsCertificate second
  pub written : IsTextOf second sealed.certificate
  pub sound : IsSound sealed.plan
  pub own : IsCertificateOf sealed.plan sealed.certificate

-- the text is refused as the plan's certificate by this fault; want of memory may be answered to
-- any
abbrev pub Unseals : Network → Text → CertFault → Type 0
Unseals plan second fault = fault ≢ NoMemory → IsFaultOf plan second fault

-- what comes of a plan and a second text, of which this holds: the plan is sealed, or the text
-- isn't its certificate's
abbrev pub SealsSecond : (Text → Type 0) → Network → Result Certified Halt → Type 0
SealsSecond HoldsCertificate plan (Ok sealed) =
    (second : Text) × HoldsCertificate second × (sealed.plan ≡ plan)
    × IsTextOf second sealed.certificate
    × IsSound plan
    × IsCertificateOf plan sealed.certificate
SealsSecond HoldsCertificate plan (Err (NoCertificate fault)) =
    (second : Text) × HoldsCertificate second × Unseals plan second fault
SealsSecond HoldsCertificate plan (Err (Failed failure)) = Unit {0}
SealsSecond HoldsCertificate plan (Err halt) = ⊥

-- what comes of two files: a sealed plan, or why there is none
abbrev pub SealsFiles : (Text → Type 0) → (Text → Type 0) → Result Certified Halt → Type 0
SealsFiles HoldsPlan HoldsCertificate (Ok sealed) = IsSealedBy HoldsPlan HoldsCertificate sealed
SealsFiles HoldsPlan HoldsCertificate (Err (NoPlan told)) =
    (text : Text) × HoldsPlan text × IsNoPlan text told
SealsFiles HoldsPlan HoldsCertificate (Err (NoCertificate fault)) =
    (text second : Text) × (plan : Network) × HoldsPlan text × Reads text (Ok plan)
    × HoldsCertificate second
    × Unseals plan second fault
SealsFiles HoldsPlan HoldsCertificate (Err (Failed failure)) = Unit {0}
SealsFiles HoldsPlan HoldsCertificate (Err halt) = ⊥

-- the site of the node of that name, or no node of the plan has it
abbrev pub Sites : Certified → Text → Result Part Halt → Type 0
Sites sealed name (Ok site) = (site.name ≡ name) × IsPartOf sealed.plan sealed.certificate site
Sites sealed name (Err NoNode) = NamesNoNode sealed.plan name
Sites sealed name (Err Memory) = Unit {0}
Sites sealed name (Err halt) = ⊥

-- why a new ledger isn't made by a path at which something is there, or isn't
abbrev pub refusal_of_new : Bool → Option OpenFault
refusal_of_new true = Some opening.IsThere
refusal_of_new false = None

-- why a ledger isn't opened by a path at which something is there, or isn't: none may be made, or
-- one must be
abbrev pub refusal_of : Making → Bool → Option OpenFault
refusal_of making.Allowed there = None
refusal_of making.Never true = None
refusal_of making.Never false = Some opening.NoLedger
refusal_of making.Wanted there = refusal_of_new there
refusal_of making.WantedWithData there = refusal_of_new there

-- why a site's ledger isn't opened
abbrev pub IsUnopened : Halt → Type 0
IsUnopened (NotOpened fault) = Unit {0}
IsUnopened Memory = Unit {0}
IsUnopened halt = ⊥

-- why a word doesn't come to the node of that name in the sealed plan
abbrev pub IsNotThere : Certified → Text → Halt → Type 0
IsNotThere sealed name NoNode = NamesNoNode sealed.plan name
IsNotThere sealed name (NotOpened fault) =
    (site : Part) × IsPartOf sealed.plan sealed.certificate site × (site.name ≡ name)
IsNotThere sealed name Memory = Unit {0}
IsNotThere sealed name halt = ⊥

-- the node's site, by a plan that is sealed so
pub record IsSiteBy (HoldsPlan HoldsCertificate : Text → Type 0) (name : Text) (sealed : Certified)
    (site : Part) : Type 0 where
  pub by : IsSealedBy HoldsPlan HoldsCertificate sealed
  pub part : IsPartOf sealed.plan sealed.certificate site
  pub named : site.name ≡ name

-- the node's site by such a plan, and a ledger that may be opened for it and is of that site
pub record IsAt {L : Type 0} (HoldsPlan HoldsCertificate : Text → Type 0) (MayOpen : L → Type 0)
    (site_of : L → Part) (name : Text) (sealed : Certified) (site : Part)
    (ledger : L) : Type 0 where
  pub at : IsSiteBy HoldsPlan HoldsCertificate name sealed site
  pub opened : MayOpen ledger
  pub of : site_of ledger ≡ site

-- why a word doesn't come to the node of that name
abbrev pub HaltsAs : (Text → Type 0) → (Text → Type 0) → Text → Halt → Type 0
HaltsAs HoldsPlan HoldsCertificate name (NoPlan told) =
    (text : Text) × HoldsPlan text × IsNoPlan text told
HaltsAs HoldsPlan HoldsCertificate name (NoCertificate fault) =
    (text second : Text) × (plan : Network) × HoldsPlan text × Reads text (Ok plan)
    × HoldsCertificate second
    × Unseals plan second fault
HaltsAs HoldsPlan HoldsCertificate name NoNode =
    (sealed : Certified)
    × IsSealedBy HoldsPlan HoldsCertificate sealed
    × NamesNoNode sealed.plan name
HaltsAs HoldsPlan HoldsCertificate name (NotOpened fault) =
    (sealed : Certified) × (site : Part) × IsSiteBy HoldsPlan HoldsCertificate name sealed site
HaltsAs HoldsPlan HoldsCertificate name (NoInstance fault) = ⊥
HaltsAs HoldsPlan HoldsCertificate name (Refused fault) = ⊥
HaltsAs HoldsPlan HoldsCertificate name Receipt = ⊥
HaltsAs HoldsPlan HoldsCertificate name (Failed failure) = Unit {0}
HaltsAs HoldsPlan HoldsCertificate name Memory = Unit {0}
