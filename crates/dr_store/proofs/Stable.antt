-- What a truncated fact says after all: facts that have one proof at most, or that can be tested.
use Rattle.std.proofs.Common.{◌≡◌, ◌⊎◌, inl, inr, ℕ, zero, suc, ◌+◌, ◌<◌, Bool, true, false, eqb, eqb-true, List, [], ◌∷◌, Contains, refl, sym, ap, subst, arith}
use Rattle.std.proofs.lemmas.Bool.{eqb-false}
use Rattle.std.proofs.Math.Logic.{∥∥₁_elim, ∥∥₁_map}
use Rattle.std.specs.Coded.{Coded}
use base.Stored.{Gv, gnil, gnum, gcons, num}

abbrev pub Stable : Type 0 → Type 0
Stable P = ∥ P ∥₁ → P

pub of_prop : {P : Type 0} → IsProp P → Stable P
of_prop prop h = ∥∥₁_elim h prop (λ p. p)

pub of_dec : {P : Type 0} → Dec P → Stable P
of_dec (yes p) h = p
of_dec (no n) h = absurd (∥∥₁_elim h (λ x y. absurd x) n)

pub of_set : {A : Type 0} → IsSet A → (a b : A) → Stable (a ≡ b)
of_set s a b = of_prop (s a b)

pub never : {P : Type 0} → Stable (P → ⊥)
never h p = ∥∥₁_elim h (λ x y. absurd x) (λ n. n p)

pub both : {P Q : Type 0} → Stable P → Stable Q → Stable (P × Q)
both p q h = (p (∥∥₁_map h (λ x. x.0)), q (∥∥₁_map h (λ x. x.1)))

pub three : {P Q R : Type 0} → Stable P → Stable Q → Stable R → Stable (P × Q × R)
three p q r h = (p (∥∥₁_map h (λ x. x.0)), q (∥∥₁_map h (λ x. x.1)), r (∥∥₁_map h (λ x. x.2)))

pub each : {A : Type 0} {P : A → Type 0} → ((x : A) → Stable (P x)) → Stable ((x : A) → P x)
each f h x = f x (∥∥₁_map h (λ g. g x))

-- the first can be tested
pub either : {P Q : Type 0} → Dec P → Stable Q → Stable (P ⊎ Q)
either (yes p) q h = inl p
either (no n) q h = inr (q (∥∥₁_map h (λ s. elim s [ inl p ↦ absurd (n p) | inr x ↦ x ])))

-- ---- what has a code can be compared

abbrev is_nil : Gv → Type 0
is_nil gnil = Unit {0}
is_nil (gnum n) = ⊥
is_nil (gcons a b) = ⊥

abbrev is_num : Gv → Type 0
is_num gnil = ⊥
is_num (gnum n) = Unit {0}
is_num (gcons a b) = ⊥

abbrev head : Gv → Gv
head gnil = gnil
head (gnum n) = gnil
head (gcons a b) = a

abbrev tail : Gv → Gv
tail gnil = gnil
tail (gnum n) = gnil
tail (gcons a b) = b

same_num : (m n : ℕ) → Dec (gnum m ≡ gnum n)
same_num m n = go (eqb m n) refl
  where
    go : (b : Bool) → eqb m n ≡ b → Dec (gnum m ≡ gnum n)
    go true is = yes (ap gnum (eqb-true m n is))
    go false is = no (λ e. eqb-false m n is (ap num e))

same_pair : (a b c d : Gv) → Dec (a ≡ c) → Dec (b ≡ d) → Dec (gcons a b ≡ gcons c d)
same_pair a b c d (yes p) (yes q) = yes (λ i. gcons (p i) (q i))
same_pair a b c d (no n) q = no (λ e. n (ap head e))
same_pair a b c d (yes p) (no n) = no (λ e. n (ap tail e))

same_code : (a b : Gv) → Dec (a ≡ b)
same_code gnil gnil = yes refl
same_code gnil (gnum n) = no (λ e. subst is_nil e tt)
same_code gnil (gcons c d) = no (λ e. subst is_nil e tt)
same_code (gnum m) gnil = no (λ e. subst is_num e tt)
same_code (gnum m) (gnum n) = same_num m n
same_code (gnum m) (gcons c d) = no (λ e. subst is_num e tt)
same_code (gcons a b) gnil = no (λ e. subst is_nil (sym e) tt)
same_code (gcons a b) (gnum n) = no (λ e. subst is_num (sym e) tt)
same_code (gcons a b) (gcons c d) = same_pair a b c d (same_code a c) (same_code b d)

pub tested : {A : Type 0} → Coded A → (x y : A) → Dec (x ≡ y)
tested {A} c x y = go (same_code (c.code x) (c.code y))
  where
    go : Dec (c.code x ≡ c.code y) → Dec (x ≡ y)
    go (yes p) = yes (c.inj x y p)
    go (no n) = no (λ e. n (ap c.code e))

pub by_code : {A : Type 0} → Coded A → (x y : A) → Stable (x ≡ y)
by_code c x y = of_dec (tested c x y)

-- ---- and looked for in a list

pub not_in_none : {A : Type 0} (x : A) → Contains [] x → ⊥
not_in_none x h = omega (arith, h.1)

pub first_in : {A : Type 0} (y x : A) (ys : List A) → y ≡ x → Contains (y ∷ ys) x
first_in y x ys e = (0, omega arith, e)

pub later_in : {A : Type 0} (y x : A) (ys : List A) → Contains ys x → Contains (y ∷ ys) x
later_in y x ys h = (suc h.0, omega (arith, h.1), h.2)

pub in_cases : {A : Type 0} (y x : A) (ys : List A) → Contains (y ∷ ys) x → (y ≡ x) ⊎ Contains ys x
in_cases y x ys (zero, within, e) = inl e
in_cases y x ys (suc k, within, e) = inr (k, omega (arith, within), e)

pub is_in : {A : Type 0} → ((x y : A) → Dec (x ≡ y)) → (xs : List A) (x : A) → Dec (Contains xs x)
is_in same [] x = no (not_in_none x)
is_in {A} same (y ∷ ys) x = go (same y x) (is_in same ys x)
  where
    go : Dec (y ≡ x) → Dec (Contains ys x) → Dec (Contains (y ∷ ys) x)
    go (yes p) later = yes (first_in y x ys p)
    go (no n) (yes h) = yes (later_in y x ys h)
    go (no n) (no m) = no (λ h. elim (in_cases y x ys h) [ inl p ↦ n p | inr l ↦ m l ])
