-- Sites, and why there is none.
use Rattle.std.specs.Prelude.{◌≡◌, ◌↔◌, Result, Ok, Err}
use Rattle.dr_base.specs.Texts.{Text}
use Rattle.dr_plan_model.specs.Networks.{Network}
use Rattle.dr_plan_model.specs.Plans.{IsWellFormed, NamesNoNode}
use Rattle.dr_plan_sound.specs.declared.certificate.Certificate.{Certificate}
use Rattle.dr_plan_sound.specs.Soundness.{IsSound}
use Rattle.dr_plan_sound.specs.Certificates.{IsCertificateOf}
use Rattle.dr_cert.specs.Indexing.{AreSorted}
use Rattle.dr_site.specs.declared.site.SiteFault.{SiteFault}
use Rattle.dr_site.specs.declared.site.SiteFault.TheVariants.{NoNode, Memory}
use Rattle.dr_site.specs.Parts.{Part, IsPartOf}

-- a sound plan with its certificate
pub record IsCertified (plan : Network) (certificate : Certificate) : Type 0 where
  pub formed : IsWellFormed plan
  pub sound : IsSound plan
  pub certified : IsCertificateOf plan certificate

-- the part of a sound plan and its certificate
abbrev pub IsPartOfSome : Part → Type 0
IsPartOfSome part =
    (plan : Network)
    × (certificate : Certificate)
    × IsCertified plan certificate
    × IsPartOf plan certificate part

-- what the type of sites keeps
pub record IsSite (part : Part) : Type 0 where
  pub sorted : AreSorted part.lines
  pub some : IsPartOfSome part

-- The site of the node of that name, or no node has it. Memory is wanted for a node of the plan
-- alone.
abbrev pub IsSiteOf : Network → Certificate → Text → Result Part SiteFault → Type 0
IsSiteOf plan certificate name (Ok part) = (part.name ≡ name) × IsPartOf plan certificate part
IsSiteOf plan certificate name (Err NoNode) = NamesNoNode plan name
IsSiteOf plan certificate name (Err Memory) = NamesNoNode plan name → ⊥

-- who is no node of the plan is told so, whatever memory there is; and nobody else is
abbrev pub StrangersAreTold : Type 0
StrangersAreTold =
    (plan : Network) (certificate : Certificate) (name : Text) (r : Result Part SiteFault)
    → IsSiteOf plan certificate name r
    → NamesNoNode plan name ↔ (r ≡ Err NoNode)
