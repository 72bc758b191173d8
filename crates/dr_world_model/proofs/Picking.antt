-- Numbers in a list, tests that both hold, and keys in order.
use Rattle.std.specs.Prelude.{◌≡◌, ℕ, Bool, true, false, T, ◌&&◌, ◌||◌, List, [], ◌∷◌, map as mapped, Contains}
use Rattle.std.proofs.Common.{refl, sym, ap, subst, ◌∙◌}
use mathlib.Core.Logic.{inl, inr}
use Rattle.std.specs.declared.cmp.Ordering.{Ordering}
use Rattle.std.specs.declared.cmp.Ordering.TheVariants.{Less, Equal, Greater}
use Rattle.std.specs.Ordering.{nat_cmp, eq_by_cmp, is_lt}
use Rattle.std.specs.List.{AllByRecursion, list_any}
use Rattle.std.specs.List.Sorted.{IsStrictlySortedBy}
use Rattle.std.specs.FinMap.Entries.{is_sorted, below_all}
use Rattle.dr_plan_model.proofs.Gathered.{Contains-cons_cases, Contains-here, Contains-there, nothing_in_nil}
use Rattle.dr_ledger.proofs.Maps.{same_or_not, ties_itself}
use Rattle.dr_world_model.proofs.Lookups.{numbers}

pub any_in : (number : ℕ) (all : List ℕ) → Contains all number → list_any (eq_by_cmp nat_cmp number) all ≡ true
any_in number [] h = absurd (nothing_in_nil number h)
any_in number (first ∷ all) h = elim (Contains-cons_cases first all number h) [
  | inl same ↦ ap (λ b. b || list_any (eq_by_cmp nat_cmp number) all) (ap (eq_by_cmp nat_cmp number) same ∙ ties_itself numbers number)
  | inr later ↦ or_true (eq_by_cmp nat_cmp number first) _ (any_in number all later)
]
  where
    or_true : (b c : Bool) → c ≡ true → (b || c) ≡ true
    or_true true c h = refl
    or_true false c h = h

pub both : (a b : Bool) → (a && b) ≡ true → b ≡ true
both true b h = h
both false b h = absurd (let e : ⊥ = cc in e)

pub in_any : (number : ℕ) (all : List ℕ) → list_any (eq_by_cmp nat_cmp number) all ≡ true → Contains all number
in_any number [] h = absurd (let e : ⊥ = cc in e)
in_any number (first ∷ all) h = elim (same_or_not numbers number first) [
  | inl same ↦ subst (λ n. Contains (first ∷ all) n) (sym same) (Contains-here first all)
  | inr other ↦ Contains-there first all number (in_any number all (sym (ap (λ b. b || list_any (eq_by_cmp nat_cmp number) all) other) ∙ h))
]

pub first_of_two : (a b : Bool) → (a && b) ≡ true → a ≡ true
first_of_two true b h = refl
first_of_two false b h = absurd (let e : ⊥ = cc in e)

pub both_true : (a b : Bool) → a ≡ true → b ≡ true → (a && b) ≡ true
both_true true b h k = k
both_true false b h k = h

less : (r : Ordering) → T (is_lt r) → r ≡ Less
less Less h = refl
less Equal h = absurd h
less Greater h = absurd h

first_part : (a b : Bool) → T (a && b) → T a
first_part true b h = tt
first_part false b h = absurd h

second_part : (a b : Bool) → T (a && b) → T b
second_part true b h = h
second_part false b h = absurd h

below : {X : Type 0} (x : ℕ) (es : List (ℕ × X)) → T (below_all nat_cmp x es) → AllByRecursion (λ y. nat_cmp x y ≡ Less) (mapped (λ (e : ℕ × X). e.0) es)
below x [] h = tt
below x (e ∷ es) h = (less (nat_cmp x e.0) (first_part _ _ h), below x es (second_part _ _ h))

pub sorted : {X : Type 0} (es : List (ℕ × X)) → T (is_sorted nat_cmp es) → IsStrictlySortedBy nat_cmp (mapped (λ (e : ℕ × X). e.0) es)
unfolding IsStrictlySortedBy
sorted [] h = tt
sorted (e ∷ es) h = (below e.0 es (first_part _ _ h), sorted es (second_part _ _ h))
