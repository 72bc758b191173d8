-- Who is no node of a plan is told so.
use Rattle.std.proofs.Common.{◌≡◌, refl, subst, sym, Result, Ok, Err}
use Rattle.std.specs.Result.{IsErr, IsErrAnd}
use Rattle.std.proofs.lemmas.Bool.{false≢true}
use Rattle.dr_base.specs.Texts.{Text}
use Rattle.dr_plan_model.specs.Plans.{NamesNoNode}
use Rattle.dr_site.specs.declared.site.SiteFault.{SiteFault}
use Rattle.dr_site.specs.declared.site.SiteFault.TheVariants.{NoNode, Memory}
use Rattle.dr_site.specs.Parts.{Part}
use Rattle.dr_site.specs.Sites.{StrangersAreTold}

abbrev IsNoNode : Result Part SiteFault → Type 0
IsNoNode (Err NoNode) = Unit {0}
IsNoNode r = ⊥

pub strangers_are_told : StrangersAreTold
strangers_are_told plan certificate name (Ok part) h = (
  λ none. absurd (subst (λ (n : Text). NamesNoNode plan n) (sym h.0) none h.1.node.0 h.1.node.1.0),
  λ is. absurd (subst IsNoNode (sym is) tt),
)
strangers_are_told plan certificate name (Err NoNode) h = (λ none. refl, λ is. h)
strangers_are_told plan certificate name (Err Memory) h = (λ none. absurd (h none), λ is. absurd (subst IsNoNode (sym is) tt))

-- what a wanting of memory is handed on as
pub told_as_memory : (P : Result Part SiteFault → Type 0) (r : Result Part SiteFault) → IsErr r → IsErrAnd r (λ (e : SiteFault). e ≡ Memory) → P (Err Memory) → P r
told_as_memory P (Ok part) is_err gives h = absurd (false≢true is_err)
told_as_memory P (Err e) is_err gives h = subst (λ (w : SiteFault). P (Err w)) (sym gives) h
