-- What exceptions take from a rule.
use Rattle.std.proofs.Common.{◌≡◌, ◌<◌, List, [], ◌∷◌, Contains, inl, inr, refl, subst, codes, arith}
use Rattle.std.specs.Prelude.{◌↔◌}
use Rattle.std.proofs.lemmas.Bool.{false≢true}
use Rattle.std.proofs.lemmas.Slice.Eq.{bytes_eq-Decides}
use Rattle.std.proofs.lemmas.List.Elements.{Contains-push, Contains-push_cases}
use Rattle.dr_base.specs.Texts.{Text}
use Rattle.dr_route.specs.Routes.{local, MatchesField, TakesStation, Holds}
use Rattle.dr_route.specs.Laws.{HoldsForAllButOne}
use Rattle.dr_route.specs.declared.key.Key.{Key}
use Rattle.dr_route.specs.declared.rule.Rule.{Rule}
use Rattle.dr_route.proofs.Finding.{beginning}

nothing_there : (text : Text) → Contains [] text → ⊥
nothing_there text among = let lt : among.0 < 0 = among.1 in omega arith

pub excepted : (rule : Rule) (caller : Text) (key : Key) → Contains rule.except key.station → Holds rule caller key → ⊥
excepted rule caller key there h = h.4.1 there

pub others : (rule : Rule) (caller : Text) (key : Key) → (Contains rule.except key.station → ⊥) → Holds rule caller key ↔ Holds (record rule { except = [] }) caller key
others rule caller key free = (
  λ h. (h.0, h.1, h.2, h.3, (h.4.0, nothing_there key.station)),
  λ h. (h.0, h.1, h.2, h.3, (h.4.0, free)),
)

pub none : (rule : Rule) (station : Text) → rule.except ≡ [] → TakesStation rule station ↔ MatchesField rule.station station
none rule station empty = (
  λ h. h.0,
  λ h. (h, λ there. nothing_there station (let P : List Text → Type 0 = λ ts. Contains ts station in subst P empty there)),
)

one : (text : Text) → Contains (codes "CT9" ∷ []) text → codes "CT9" ≡ text
one text among = elim (Contains-push_cases [] (codes "CT9") text among) [
  | inl nowhere ↦ absurd (nothing_there text nowhere)
  | inr same ↦ same
]

pub figure : HoldsForAllButOne
figure = (
  (
    λ e. false≢true ((bytes_eq-Decides (codes "GATE") local).1 e),
    tt,
    tt,
    tt,
    ((codes "1", refl), λ among. false≢true ((bytes_eq-Decides (codes "CT9") (codes "CT1")).1 (one (codes "CT1") among))),
  ),
  λ h. h.4.1 (Contains-push [] (codes "CT9")),
  λ h. false≢true ((bytes_eq-Decides (codes "MR") (codes "CT")).1 (beginning (codes "CT") (codes "MR1") h.4.0)),
)
