-- Laws of changes.
use Rattle.std.proofs.Common.{◌≡◌, inl, inr, refl, sym, subst, List, [], ◌∷◌, Contains}
use Rattle.dr_base.specs.Texts.{Text}
use Rattle.dr_route.specs.Laws.{key_of}
use Rattle.dr_route.specs.declared.key.Key.{Key}
use Rattle.dr_plan_model.specs.Networks.{Network}
use Rattle.dr_plan_model.proofs.Gathered.{nothing_in_nil, Contains-here}
use Rattle.dr_cert_diff.specs.declared.change.RouteChange.{RouteChange}
use Rattle.dr_cert_diff.specs.Differing.{IsDiff, IsLost, IsRight, LiesInBoth}

-- by one plan nothing is lost
none_lost : (plan : Network) (site : Text) (key : Key) (dest : Text) → IsLost plan plan site key dest → ⊥
none_lost plan site key dest lost = lost.1 lost.0

no_names : (names : List Text) → ((dest : Text) → Contains names dest → ⊥) → names ≡ []
no_names [] none = refl
no_names (dest ∷ more) none = absurd (none dest (Contains-here dest more))

none_right : (plan : Network) (change : RouteChange) → IsRight plan plan change → ⊥
none_right plan change right = elim right.some [
  | inl lost ↦ lost (no_names change.lost (λ dest among. none_lost plan change.site (key_of change.cell) dest ((right.lost (key_of change.cell) right.some_key dest).0 among)))
  | inr gained ↦ gained (no_names change.gained (λ dest among. none_lost plan change.site (key_of change.cell) dest ((right.gained (key_of change.cell) right.some_key dest).0 among)))
]

no_change : (plan : Network) (changes : List RouteChange) → IsDiff plan plan changes → changes ≡ []
no_change plan [] diff = refl
no_change plan (change ∷ more) diff = absurd (none_right plan change (diff.right change (Contains-here change more)))

pub same_plan : (plan : Network) → IsDiff plan plan [] × ((changes : List RouteChange) → IsDiff plan plan changes → changes ≡ [])
same_plan plan = (
  record {
    right = λ change among. absurd (nothing_in_nil change among);
    whole = λ site key dest differs. absurd (elim differs [ inl lost ↦ none_lost plan site key dest lost | inr gained ↦ none_lost plan site key dest gained ]);
  },
  no_change plan,
)

pub gained_back : (old new : Network) (there back : List RouteChange) → IsDiff old new there → IsDiff new old back → (change : RouteChange) (key : Key) (dest : Text) →
    Contains there change → LiesInBoth old new change.cell key → Contains change.lost dest →
    (other : RouteChange) × Contains back other × (other.site ≡ change.site) × LiesInBoth new old other.cell key × Contains other.gained dest
gained_back old new there back first second change key dest among lies lost =
    let is : IsLost old new change.site key dest = ((first.right change among).lost key lies dest).0 lost in
    let told = second.whole change.site key dest (inr is) in
    let at : IsLost old new told.0.site key dest = subst (λ (s : Text). IsLost old new s key dest) (sym told.2) is in
    (told.0, told.1, told.2, told.3, ((second.right told.0 told.1).gained key told.3 dest).1 at)
