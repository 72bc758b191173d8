-- From the entries of more to those of less, and back: one value of them after another.
use Rattle.std.proofs.Common.{◌≡◌, ℕ, refl, sym, ◌∙◌, subst, List, Contains, Some}
use Rattle.std.specs.Prelude.{◌↔◌, slice_get}
use Rattle.std.proofs.lemmas.Option.{same_Some, slice_get_within, get_or_from_slice_get}
use Rattle.dr_base.specs.Texts.{Text}
use Rattle.dr_base.specs.declared.syntax.Syntax.{Syntax}
use Rattle.dr_route.specs.declared.cell.OwnedCell.{OwnedCell}
use Rattle.dr_route.specs.declared.cell.OwnedField.{OwnedField}
use Rattle.dr_plan_model.specs.declared.plan.Flow.{Flow}
use Rattle.dr_plan_model.specs.Networks.{Network}
use Rattle.dr_plan_model.specs.Laws.{IsCellOf}
use Rattle.dr_plan_entries.specs.Entering.{AdmitsField, TakesIn, FitsAll, WantsAny, WantsSite, WantsClass, WantsSyntax, WantsModality, WantsStation}
use Rattle.dr_plan_entries.proofs.Entries.{place_of}
use Rattle.dr_plan_entries.proofs.Visits.{Picks, picked_takes, picked_back}

module _ (plan : Network) where
  -- ---- the site
  pub site_in : (site : Text) (all here : List ℕ) → Picks plan.flows all (λ f. f.at ≡ site) here →
      ((k : ℕ) (flow : Flow) (cell : OwnedCell) → slice_get plan.flows k ≡ Some flow → TakesIn flow cell → Contains all k) → (s : Text) (x : OwnedCell) → WantsAny plan s x → site ≡ s →
      WantsSite plan site here s x
  site_in site all here picks whole s x w same =
      let flow : Flow = w.1.0 in
      let place = place_of plan.flows flow w.1.1 in
      (sym same, w.0, (place.0, (picks place.0).1 (whole place.0 flow x place.2 w.1.3, (flow, place.2, w.1.2 ∙ sym same)), (flow, place.2, w.1.3)))

  pub site_out : (site : Text) (all here : List ℕ) → Picks plan.flows all (λ f. f.at ≡ site) here → (s : Text) (x : OwnedCell) → WantsSite plan site here s x → WantsAny plan s x × (s ≡ site)
  site_out site all here picks s x w =
      let t = w.2 in
      let flow : Flow = t.2.0 in
      let found = ((picks t.0).0 t.1).1 in
      let among : Contains plan.flows flow = (t.0, slice_get_within plan.flows t.0 flow t.2.1, get_or_from_slice_get plan.flows t.0 flow flow t.2.1) in
      let same : found.0 ≡ flow = same_Some _ _ (sym found.1 ∙ t.2.1) in
      let A : Flow → Type 0 = λ f. f.at ≡ site in
      ((w.1, (flow, among, subst A same found.2 ∙ sym w.0, t.2.2)), w.0)

  -- ---- the class
  pub class_in : (site class : Text) (among here : List ℕ) → Picks plan.flows among (λ f. Contains f.classes class) here → (s : Text) (x : OwnedCell) → WantsSite plan site among s x → class ≡ x.class →
      WantsClass plan site class here s x
  class_in site class among here picks s x w same =
      (sym same, (w.0, w.1, picked_takes plan.flows among here (λ f. Contains f.classes class) x picks (λ flow t. let F : Text → Type 0 = λ y. Contains flow.classes y in subst F (sym same) t.class) w.2))

  pub class_out : (site class : Text) (among here : List ℕ) → Picks plan.flows among (λ f. Contains f.classes class) here → (s : Text) (x : OwnedCell) → WantsClass plan site class here s x →
      WantsSite plan site among s x × (x.class ≡ class)
  class_out site class among here picks s x w = ((w.1.0, w.1.1, picked_back plan.flows among here (λ f. Contains f.classes class) x picks w.1.2), w.0)

  -- ---- the transfer syntax
  pub syntax_alike : (site class : Text) (syntax : Syntax) (among here : List ℕ) → Picks plan.flows among (λ f. Contains f.syntaxes syntax) here → (s : Text) (x : OwnedCell) →
      WantsSyntax plan site class syntax among s x ↔ WantsSyntax plan site class syntax here s x
  syntax_alike site class syntax among here picks s x = (
    λ w. (
      w.0,
      (
        w.1.0,
        (
          w.1.1.0,
          w.1.1.1,
          picked_takes plan.flows among here (λ f. Contains f.syntaxes syntax) x picks
              (λ flow t. let F : Syntax → Type 0 = λ y. Contains flow.syntaxes y in subst F w.0 t.syntax) w.1.1.2,
        ),
      ),
    ),
    λ w. (w.0, (w.1.0, (w.1.1.0, w.1.1.1, picked_back plan.flows among here (λ f. Contains f.syntaxes syntax) x picks w.1.1.2))),
  )

  -- ---- the part of modality
  pub modality_in : (site class : Text) (syntax : Syntax) (modality : OwnedField) (among here : List ℕ) → Picks plan.flows among (λ f. AdmitsField f.modalities modality) here → (s : Text) (x : OwnedCell) →
      WantsSyntax plan site class syntax among s x → modality ≡ x.modality → WantsModality plan site class syntax modality here s x
  modality_in site class syntax modality among here picks s x w same = (
    sym same,
    (
      w.0,
      (
        w.1.0,
        (
          w.1.1.0,
          w.1.1.1,
          picked_takes plan.flows among here (λ f. AdmitsField f.modalities modality) x picks
              (λ flow t. let F : OwnedField → Type 0 = λ y. AdmitsField flow.modalities y in subst F (sym same) t.modality) w.1.1.2,
        ),
      ),
    ),
  )

  pub modality_out : (site class : Text) (syntax : Syntax) (modality : OwnedField) (among here : List ℕ) → Picks plan.flows among (λ f. AdmitsField f.modalities modality) here → (s : Text) (x : OwnedCell) →
      WantsModality plan site class syntax modality here s x → WantsSyntax plan site class syntax among s x × (x.modality ≡ modality)
  modality_out site class syntax modality among here picks s x w =
      ((w.1.0, (w.1.1.0, (w.1.1.1.0, w.1.1.1.1, picked_back plan.flows among here (λ f. AdmitsField f.modalities modality) x picks w.1.1.1.2))), w.0)

  -- ---- one cell
  pub is_wanted : (site class : Text) (syntax : Syntax) (modality : OwnedField) (station : OwnedField) (among : List ℕ) (cell : OwnedCell) (k : ℕ) (flow : Flow) →
      cell ≡ record { class = class; syntax = syntax; modality = modality; station = station } → IsCellOf plan (record { class = class; syntax = syntax; modality = modality; station = station }) →
      Contains among k → slice_get plan.flows k ≡ Some flow → FitsAll flow site class syntax modality station → WantsStation plan site class syntax modality station among site cell
  is_wanted site class syntax modality station among cell k flow same is has at fits =
      let P : OwnedCell → Type 0 = λ x. WantsStation plan site class syntax modality station among site x in
      let takes : TakesIn flow (record { class = class; syntax = syntax; modality = modality; station = station }) =
      record { class = fits.1.1.1.0; syntax = fits.1.1.0; modality = fits.1.0; station = fits.0 } in
      subst P (sym same) (refl, (refl, (refl, (refl, (refl, is, (k, has, (flow, at, takes)))))))
