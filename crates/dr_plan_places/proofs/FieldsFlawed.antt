-- Why a table isn't of its form, by one of its keys.
use Rattle.std.proofs.Common.{◌≡◌, refl, sym, subst, ℕ, List, Option, None, Some, Ordering, Less, Equal, Greater, Contains, Bor, Bool, true, false, not, IsTrue}
use Rattle.std.specs.Prelude.{IfSome, IsSome}
use Rattle.std.specs.Ordering.{nat_cmp, match_ordering}
use Rattle.std.specs.Cmp.Lexicographic.{slice_cmp}
use Rattle.std.proofs.lemmas.Map.Lookups.{exact_bytes}
use Rattle.toml.specs.Data.{Data, Members, no_members, member, get_member}
use Rattle.dr_base.specs.Texts.{Text}
use Rattle.dr_plan_text.specs.Fields.{Given, GivenOr, HasOnly}
use Rattle.dr_plan_places.specs.FieldFlaws.{IsAtFault, IsUnknown}

-- a test doesn't both fail and hold
pub not_both : (b : Bool) → IsTrue (not b) → IsTrue b → ⊥
not_both true fails holds = cc
not_both false fails holds = cc

at_order : (o : Ordering) (d : Data) (rest : Option Data) → (o ≡ Equal → ⊥) → rest ≡ None → match_ordering o rest (Some d) rest ≡ None
at_order Less d rest apart e = e
at_order Equal d rest apart e = absurd (apart refl)
at_order Greater d rest apart e = e

-- where only these keys stand, nothing stands at another
pub none_given : (keys : List Text) (fields : Members) (key : Text) → HasOnly keys fields → (Contains keys key → ⊥) → get_member key fields ≡ None
none_given keys no_members key only other = refl
none_given keys (member l d ms) key only other =
    at_order (slice_cmp nat_cmp key l) d (get_member key ms) (λ e. other (subst (λ (k : Text). Contains keys k) (sym (exact_bytes key l e)) only.0)) (none_given keys ms key only.1 other)

module _ {X : Type 0} (IsTable : Members → X → Type 0) (fields : Members) where
  pub unknown : (keys : List Text) (key : Text) → ((other : Members) (x : X) → IsTable other x → HasOnly keys other) → IsSome (get_member key fields) → (Contains keys key → ⊥)
      → IsUnknown IsTable fields key
  unknown keys key only given other = (given, λ table x is. none_given keys table key (only table x is) other)

  -- a key that isn't among those of the form
  pub unknown_found : (keys : List Text) → ((other : Members) (x : X) → IsTable other x → HasOnly keys other) → (found : Option (Bor (List ℕ)))
      → IfSome found (λ key. IsSome (get_member key.now fields) × (Contains keys key.now → ⊥)) → IfSome found (λ key. IsUnknown IsTable fields key.now)
  unknown_found keys only None h = h
  unknown_found keys only (Some key) h = unknown keys key.now only h.0 h.1

  -- a field that has to stand there, and says nothing
  pub missed : {Y : Type 0} (Says : Data → Y → Type 0) (part : X → Y) (key : Text) → ((other : Members) (x : X) → IsTable other x → Given Says (get_member key other) (part x))
      → ((y : Y) → Given Says (get_member key fields) y → ⊥) → IsAtFault IsTable fields key
  missed Says part key gives refuted = λ other x same beside is. refuted (part x) (subst (λ (d : Option Data). Given Says d (part x)) same (gives other x is))

  -- a field that may be left out, and says nothing
  pub misread : {Y : Type 0} (default : Y) (Says : Data → Y → Type 0) (part : X → Y) (key : Text)
      → ((other : Members) (x : X) → IsTable other x → GivenOr default Says (get_member key other) (part x))
      → ((default y : Y) → GivenOr default Says (get_member key fields) y → ⊥) → IsAtFault IsTable fields key
  misread default Says part key gives refuted = λ other x same beside is. refuted default (part x) (subst (λ (d : Option Data). GivenOr default Says d (part x)) same (gives other x is))
