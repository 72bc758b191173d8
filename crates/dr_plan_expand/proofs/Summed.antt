-- Numbers that are taken from a room, one after another.
use Rattle.std.proofs.Common.{◌≡◌, ℕ, ◌+◌, ◌-◌, ◌*◌, ◌<◌, ◌≤◌, refl, sym, ◌∙◌, ap, subst, List, [], ◌∷◌, ◌++◌, length, get_or, take, sum_by, true, false, inl, inr, arith}
use Rattle.std.specs.Prelude.{nat_eq, nat_le}
use Rattle.std.specs.Str.{bytes_eq}
use Rattle.std.proofs.lemmas.Bool.{false≢true, cond-true, cond-false, cond_both, eqb-true, leb-true, le-leb}
use Rattle.std.proofs.lemmas.Slice.Eq.{bytes_eq-Decides}
use Rattle.std.proofs.lemmas.List.{take_more}
use Rattle.std.proofs.lemmas.List.Sums.{sum_by_push, sum_by-take-le}
use Rattle.std.proofs.Math.Nat.{le-mul_of_pos_right, lt_of_not-le}
use Rattle.dr_base.specs.Texts.{Text}
use Rattle.dr_plan_expand.specs.Words.{Defines}
use Rattle.dr_plan_expand.specs.Amounts.{list_amount, too_much, defined_size, marked_size, word_size}
use Rattle.dr_plan_expand.specs.declared.short.Definition.{Definition}

-- one element more
pub sum_more : {X : Type 0} (f : X → ℕ) (xs : List X) (i : ℕ) (x : X) (left more room : ℕ) → i < length xs → x ≡ get_or xs i x →
    sum_by f (take i xs) + left ≡ room → f x + more ≡ left → sum_by f (take (i + 1) xs) + more ≡ room
sum_more f xs i x left more room lt at so_far here =
    let grown : take (i + 1) xs ≡ take i xs ++ x ∷ [] = rw (← at) at (take_more xs i x lt) in
    let sum : sum_by f (take (i + 1) xs) ≡ sum_by f (take i xs) + f x = ap (sum_by f) grown ∙ sum_by_push f (take i xs) x in
    omega arith

-- one for which there is no room
pub sum_over : {X : Type 0} (f : X → ℕ) (xs : List X) (i : ℕ) (x : X) (left room : ℕ) → i < length xs → x ≡ get_or xs i x →
    sum_by f (take i xs) + left ≡ room → left < f x → room < sum_by f xs
sum_over f xs i x left room lt at so_far here =
    let grown : take (i + 1) xs ≡ take i xs ++ x ∷ [] = rw (← at) at (take_more xs i x lt) in
    let sum : sum_by f (take (i + 1) xs) ≡ sum_by f (take i xs) + f x = ap (sum_by f) grown ∙ sum_by_push f (take i xs) x in
    let part = sum_by-take-le f xs (i + 1) in
    omega arith

-- the list of a number
pub listed_few : (n : ℕ) → n ≤ 1024 → n ≡ list_amount n
listed_few n few = cond_both (nat_le n 1024) n too_much (λ x. n ≡ x) (λ e. refl) (λ e. absurd (false≢true (sym e ∙ le-leb n 1024 few)))

pub listed_left : (n left : ℕ) → n + left ≡ 1024 → 1024 - left ≡ list_amount n
listed_left n left all = (let same : 1024 - left ≡ n = omega arith in same) ∙ listed_few n (omega arith)

pub listed_many : (n : ℕ) → 1024 < n → too_much ≡ list_amount n
listed_many n many = cond_both (nat_le n 1024) n too_much (λ x. too_much ≡ x) (λ e. absurd (let le = leb-true n 1024 e in omega arith)) (λ e. refl)

pub listed_small : (n : ℕ) → list_amount n ≤ too_much
listed_small n = cond_both (nat_le n 1024) n too_much (λ x. x ≤ too_much) (λ e. (let le = leb-true n 1024 e in omega arith)) (λ e. omega arith)

-- the words of a name
pub defined_some : (definitions : List Definition) (name : Text) (words : List Text) (other : ℕ) → Defines definitions name words → length words ≡ defined_size definitions name other
defined_some [] name words other h = absurd h.1
defined_some (d ∷ more) name words other h = elim h.1 [
  | inl here ↦ (ap length h.2 ∙ ap (λ (x : Definition). length x.words) here.1) ∙ sym (cond-true (bytes_eq d.name name) (length d.words) (defined_size more name other) ((bytes_eq-Decides d.name name).1 here.0))
  | inr later ↦ cond_both (bytes_eq d.name name) (length d.words) (defined_size more name other) (λ x. length words ≡ x)
      (λ e. absurd (later.0 ((bytes_eq-Decides d.name name).0 e)))
      (λ e. defined_some more name words other (h.0, later.1, h.2))
]

pub defined_none : (definitions : List Definition) (name : Text) (other : ℕ) → ((words : List Text) → Defines definitions name words → ⊥) → other ≡ defined_size definitions name other
defined_none [] name other none = refl
defined_none (d ∷ more) name other none = cond_both (bytes_eq d.name name) (length d.words) (defined_size more name other) (λ x. other ≡ x)
    (λ e. absurd (none d.words (d, inl ((bytes_eq-Decides d.name name).0 e, refl), refl)))
    (λ e. defined_none more name other (λ words h. none words (h.0, inr ((λ same. false≢true (sym e ∙ (bytes_eq-Decides d.name name).1 same)), h.1), h.2)))

-- for how many a word stands
pub is_long : (named : Text → ℕ) (word : Text) → nat_le (length word) 128 ≡ false → too_much ≡ word_size named word
is_long named word e = sym (cond-false (nat_le (length word) 128) (marked_size named word) too_much e)

pub is_marked : (named : Text → ℕ) (word name : Text) (n : ℕ) → nat_le (length word) 128 ≡ true → word ≡ 64 ∷ name → n ≡ named name → n ≡ word_size named word
is_marked named word name n e marked is =
    let P : Text → Type 0 = λ w. n ≡ marked_size named w in
    subst P (sym marked) is ∙ sym (cond-true (nat_le (length word) 128) (marked_size named word) too_much e)

unmarked : (named : Text → ℕ) (word : Text) → ((rest : Text) → word ≡ 64 ∷ rest → ⊥) → 1 ≡ marked_size named word
unmarked named [] plain = refl
unmarked named (byte ∷ name) plain = cond_both (nat_eq byte 64) (named name) 1 (λ x. 1 ≡ x) (λ e. absurd (plain name (ap (λ b. b ∷ name) (eqb-true byte 64 e)))) (λ e. refl)

pub is_plain : (named : Text → ℕ) (word : Text) → nat_le (length word) 128 ≡ true → ((rest : Text) → word ≡ 64 ∷ rest → ⊥) → 1 ≡ word_size named word
is_plain named word e plain = unmarked named word plain ∙ sym (cond-true (nat_le (length word) 128) (marked_size named word) too_much e)

-- products: where two factors are more than there is room, three are
pub more_yet : (area depth room : ℕ) → 0 < depth → room < area → room < area * depth
more_yet area depth room some over = let le = le-mul_of_pos_right area some in omega arith

-- a product that is no number of the machine is more than there is room for
pub over_all : (room area : ℕ) → room < 18446744073709551616 → (area < 18446744073709551616 → ⊥) → room < area
over_all room area fits over = omega (arith, lt_of_not-le over)
