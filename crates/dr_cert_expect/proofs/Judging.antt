-- What one key of a cell says of all of them.
use Rattle.std.proofs.Common.{◌≡◌, ◌∙◌, inl, inr, refl, sym, subst, Bool, true, None, List, Contains, IsTrue}
use Rattle.std.specs.Prelude.{All}
use Rattle.std.proofs.lemmas.List.Elements.{All-contains}
use Rattle.dr_base.specs.Texts.{Text}
use Rattle.dr_route.specs.Routes.{local}
use Rattle.dr_route.specs.declared.key.Key.{Key}
use Rattle.dr_plan_model.specs.Networks.{Network}
use Rattle.dr_plan_model.specs.Plans.{IsWellFormed, LiesIn}
use Rattle.dr_plan_model.specs.Walks.{IsEntry, IsDestination}
use Rattle.dr_plan_model.proofs.WalksAlike.{enter_alike}
use Rattle.dr_plan_sound.specs.declared.certificate.Line.{Line}
use Rattle.dr_cert_trace.specs.declared.reaching.Reach.{Reach}
use Rattle.dr_cert_trace.specs.Reaches.{ComesToNode, IsReach}
use Rattle.dr_plan_expect.specs.declared.words.Expectation.{Expectation}
use Rattle.dr_cert_expect.specs.declared.answer.Case.{Case}
use Rattle.dr_cert_expect.specs.declared.answer.Lack.TheVariants.{Keep, Never}
use Rattle.dr_cert_expect.specs.declared.row.Finding.{Finding}
use Rattle.dr_cert_expect.specs.declared.row.Finding.TheVariants.{Lacks}
use Rattle.dr_cert_expect.specs.Expected.{IsCase, IsMet, SpeaksOf}
use Rattle.dr_cert_expect.specs.Looking.{EntersBy, FindsAt, LooksAt}
use Rattle.dr_cert_expect.specs.Samples.{IsSample}
use Rattle.dr_cert_expect.proofs.Alike.{met_alike}
use Rattle.dr_cert_expect.proofs.Sampling.{sample_is}

-- ---- of one key
module _ (plan : Network) (row : Expectation) (site : Text) (key : Key) (reach : Reach) (is : IsReach plan site key reach) (speaks : SpeaksOf row site key) where
  pub lacks_keep : (name : Text) → Contains row.keep name → (Contains reach.keeps name → ⊥) → (finding : Finding) (case : Case) →
      finding ≡ Lacks (Keep name case) → case.site ≡ site → case.key ≡ key → FindsAt plan row site key finding
  lacks_keep name among out finding case found at of =
      let C : Text → Key → Type 0 = λ s k. IsCase plan row s k × Contains row.keep name × (IsDestination plan local s k name → ⊥) in
      let here : C site key = ((speaks, is.enters), among, λ d. out ((is.keeps name).1 d)) in
      subst (λ (f : Finding). FindsAt plan row site key f) (sym found) (subst (λ (s : Text). C s case.key) (sym at) (subst (C site) (sym of) here))

  pub lacks_never : (name : Text) → Contains row.never name → Contains reach.nodes name → (finding : Finding) (case : Case) →
      finding ≡ Lacks (Never name case) → case.site ≡ site → case.key ≡ key → FindsAt plan row site key finding
  lacks_never name among comes finding case found at of =
      let C : Text → Key → Type 0 = λ s k. IsCase plan row s k × Contains row.never name × ComesToNode plan s k name in
      let here : C site key = ((speaks, is.enters), among, (is.nodes name).0 comes) in
      subst (λ (f : Finding). FindsAt plan row site key f) (sym found) (subst (λ (s : Text). C s case.key) (sym at) (subst (C site) (sym of) here))

  pub is_met : All (λ name. Contains reach.keeps name) row.keep → All (λ name. Contains reach.nodes name → ⊥) row.never → IsMet plan row site key
  is_met kept never = record {
    keep = λ name among. (is.keeps name).0 (All-contains (λ n. Contains reach.keeps n) row.keep name kept among);
    never = λ name among comes. All-contains (λ n. Contains reach.nodes n → ⊥) row.never name never among ((is.nodes name).1 comes);
  }

-- ---- of all keys of a line's cell
module _ (plan : Network) (formed : IsWellFormed plan) (row : Expectation) (line : Line) (sample : Key) (is : IsSample row line.stop.cell sample) where
  pub no_case : (old : Bool) → (SpeaksOf row line.stop.node sample → IsEntry plan line.stop.node sample → ⊥) → LooksAt plan row line old old None
  no_case old none = (
    λ h. h,
    λ h. inl h,
    λ key enters. (
        let s = sample_is plan formed row line.stop.cell line.stop.node key sample enters.lies enters.case.0 is in
        absurd (none s.1 (enter_alike plan line.stop.cell key sample enters.lies s.0 line.stop.node enters.case.1))),
  )

  pub met : (old : Bool) → SpeaksOf row line.stop.node sample → IsEntry plan line.stop.node sample → IsMet plan row line.stop.node sample → LooksAt plan row line old true None
  met old speaks entry is_so = (
    λ h. refl,
    λ h. inr (line.stop.node, sample, (speaks, entry)),
    λ key enters. (
        let s = sample_is plan formed row line.stop.cell line.stop.node key sample enters.lies enters.case.0 is in
        (refl, met_alike plan line.stop.cell sample key s.0 enters.lies line.stop.node row is_so)),
  )
