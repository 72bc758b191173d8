use Rattle.std.proofs.Common.{◌≡◌, ◌≢◌, ◌⊎◌, ◌↔◌, ◌∙◌, inl, inr, refl, sym, subst, List, [], Contains}
use Rattle.dr_base.specs.Texts.{Text}
use Rattle.dr_route.specs.Laws.{key_of}
use Rattle.dr_route.specs.Routes.{local}
use Rattle.dr_route.specs.declared.key.Key.{Key}
use Rattle.dr_plan_model.specs.Networks.{Network}
use Rattle.dr_plan_model.specs.Walks.{IsDestination}
use Rattle.dr_route.specs.declared.cell.OwnedCell.{OwnedCell}
use Rattle.dr_cert_diff.specs.Comparing.{IsWithout}
use Rattle.dr_cert_diff.specs.Differing.{IsRight}
use Rattle.dr_cert_diff.proofs.Answering.{changed, unchanged}
use Rattle.dr_cert_diff.proofs.comparing.compare.Goals as goal

abbrev KeptBy : Network → Text → Key → List Text → Type 0
KeptBy plan site key xs = (dest : Text) → Contains xs dest ↔ IsDestination plan local site key dest

pub returns-then-are_none : goal.returns-then-are_none
returns-then-are_none c =
    let old = c.args.both.now.old.now.plan in
    let new = c.args.both.now.new.now.plan in
    let site = c.args.site.now in
    let cell = c.args.cell.now in
    let before = c.in_ok-before.before in
    let after = c.in_ok-after.after in
    let lost = c.in_ok-lost.lost in
    let gained = c.in_ok-gained.gained in
    let was : KeptBy old site (key_of cell) before = subst (λ (k : Key). KeptBy old site k before) c.in_ok-key.ensures c.in_ok-before.ensures.same in
    let now : KeptBy new site (key_of cell) after = subst (λ (k : Key). KeptBy new site k after) c.in_ok-key.ensures c.in_ok-after.ensures.same in
    let lost_is : IsWithout before after lost =
    subst (λ (xs : List Text). IsWithout xs after lost) c.as_slice.ensures (subst (λ (ys : List Text). IsWithout c.as_slice.result.now ys lost) c.as_slice-2.ensures c.in_ok-lost.ensures) in
    let gained_is : IsWithout after before gained =
    subst (λ (xs : List Text). IsWithout xs before gained) c.as_slice-3.ensures (subst (λ (ys : List Text). IsWithout c.as_slice-3.result.now ys gained) c.as_slice-4.ensures c.in_ok-gained.ensures) in
    let none = c.are_none.ensures.none c.if-are_none.true in
    unchanged old new site cell c.requires before after lost gained was now lost_is gained_is (sym c.as_slice-5.ensures ∙ none.0) (sym c.as_slice-6.ensures ∙ none.1)

pub returns : goal.returns
returns c =
    let old = c.args.both.now.old.now.plan in
    let new = c.args.both.now.new.now.plan in
    let site = c.args.site.now in
    let cell = c.args.cell.now in
    let before = c.in_ok-before.before in
    let after = c.in_ok-after.after in
    let lost = c.in_ok-lost.lost in
    let gained = c.in_ok-gained.gained in
    let was : KeptBy old site (key_of cell) before = subst (λ (k : Key). KeptBy old site k before) c.in_ok-key.ensures c.in_ok-before.ensures.same in
    let now : KeptBy new site (key_of cell) after = subst (λ (k : Key). KeptBy new site k after) c.in_ok-key.ensures c.in_ok-after.ensures.same in
    let lost_is : IsWithout before after lost =
    subst (λ (xs : List Text). IsWithout xs after lost) c.as_slice.ensures (subst (λ (ys : List Text). IsWithout c.as_slice.result.now ys lost) c.as_slice-2.ensures c.in_ok-lost.ensures) in
    let gained_is : IsWithout after before gained =
    subst (λ (xs : List Text). IsWithout xs before gained) c.as_slice-3.ensures (subst (λ (ys : List Text). IsWithout c.as_slice-3.result.now ys gained) c.as_slice-4.ensures c.in_ok-gained.ensures) in
    let some : (lost ≢ []) ⊎ (gained ≢ []) = elim (c.are_none.ensures.some c.if-are_none.false) [
      | inl l ↦ inl (λ is. l (c.as_slice-5.ensures ∙ is))
      | inr g ↦ inr (λ is. g (c.as_slice-6.ensures ∙ is))
    ] in
    let right = changed old new site cell c.requires before after lost gained was now lost_is gained_is some in
    let R : Text → OwnedCell → Type 0 = λ s d. IsRight old new (record { site = s; cell = d; lost = lost; gained = gained }) in
    (subst (λ (s : Text). R s c.in_ok-cell.cell) (sym c.in_ok-site.ensures) (subst (R site) (sym c.in_ok-cell.ensures) right), c.in_ok-site.ensures, c.in_ok-cell.ensures)
