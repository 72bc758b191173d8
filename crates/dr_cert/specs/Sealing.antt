-- A plan with its certificate.
use Rattle.std.specs.Prelude.{ℕ, List, Option, Some, None}
use Rattle.dr_base.specs.Texts.{Text}
use Rattle.dr_route.specs.declared.key.Key.{Key}
use Rattle.dr_route.specs.declared.cell.Literals.{Literals}
use Rattle.dr_plan_model.specs.Networks.{Network}
use Rattle.dr_plan_model.specs.Plans.{AreLiteralsOf, IsWellFormed}
use Rattle.dr_plan_model.specs.Walks.{IsReached}
use Rattle.dr_plan_sound.specs.declared.certificate.Line.{Line}
use Rattle.dr_plan_sound.specs.declared.certificate.Certificate.{Certificate}
use Rattle.dr_plan_sound.specs.Soundness.{IsSound, IsRank}
use Rattle.dr_plan_sound.specs.Certificates.{IsCertificateOf}
use Rattle.dr_plan_sound.specs.Ranked.{AreRanked}
use Rattle.dr_cert.specs.Indexing.{AreSorted}

-- a plan with its certificate, as contracts see what is sealed
pub record Certified : Type 0 where
  pub plan : Network
  pub certificate : Certificate

-- what a sealed plan keeps: the plan is sound, this is its certificate, and its lines can be found
-- by their stops
pub record IsSealed (plan : Network) (certificate : Certificate) (literals : Literals)
    (index : List Line) : Type 0 where
  pub formed : IsWellFormed plan
  pub sound : IsSound plan
  pub own : IsCertificateOf plan certificate
  pub literals_are : AreLiteralsOf plan literals
  pub sorted : AreSorted index
  pub ranked : AreRanked plan index

-- the rank of the pair for the key where a walk from an entry comes to it, and none elsewhere
abbrev pub IsRankIn : Network → Key → Text → Text → Option ℕ → Type 0
IsRankIn plan key caller node (Some rank) =
    IsReached plan key caller node × IsRank plan key caller node rank
IsRankIn plan key caller node None = IsReached plan key caller node → ⊥
