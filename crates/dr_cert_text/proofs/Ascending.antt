-- Texts each of which comes before the next.
use Rattle.std.proofs.Common.{◌≡◌, ℕ, ◌+◌, ◌-◌, ◌<◌, ◌≤◌, inl, inr, refl, sym, ◌∙◌, ap, subst, List, length, get_or, true, false, arith}
use Rattle.std.specs.Prelude.{AllPairs}
use Rattle.std.specs.declared.cmp.Ordering.{Ordering}
use Rattle.std.specs.declared.cmp.Ordering.TheVariants.{Less, Equal, Greater}
use Rattle.std.specs.Ordering.{is_ge}
use Rattle.std.specs.Cmp.Lexicographic.{nat_list_cmp_total}
use Rattle.std.proofs.lemmas.Bool.{cases_lt, false≢true}
use Rattle.std.proofs.lemmas.List.{get_or_default}
use Rattle.std.proofs.lemmas.Map.Keys.{Less-from_sorted, sorted_from_all_adjacent}
use Rattle.dr_base.specs.Texts.{Text, text_cmp}

pub not_ge : (o : Ordering) → is_ge o ≡ false → o ≡ Less
not_ge Less e = refl
not_ge Equal e = absurd (false≢true (sym e))
not_ge Greater e = absurd (false≢true (sym e))

pub ge_not_less : (o : Ordering) → is_ge o ≡ true → o ≡ Less → ⊥
ge_not_less Less e l = false≢true e
ge_not_less Equal e l = cc l
ge_not_less Greater e l = cc l

-- the first of them, up to a place
abbrev pub AscendTo : List Text → ℕ → Type 0
AscendTo texts end = (k : ℕ) (d : Text) → k + 1 < end → text_cmp (get_or texts k d) (get_or texts (k + 1) d) ≡ Less

pub ascend_more : (texts : List Text) (i : ℕ) (a b : Text) → 1 ≤ i → i < length texts → a ≡ get_or texts (i - 1) a → b ≡ get_or texts i b → text_cmp a b ≡ Less → AscendTo texts i → AscendTo texts (i + 1)
ascend_more texts i a b low h at_a at_b less so_far k d below = elim (cases_lt (k + 1) i) [
  | inl before ↦ so_far k d before
  | inr here ↦
      let same : k ≡ i - 1 = omega arith in
      let next : k + 1 ≡ i = omega arith in
      let first : get_or texts k d ≡ a = ap (λ (n : ℕ). get_or texts n d) same ∙ (get_or_default texts (i - 1) d a (omega arith) ∙ sym at_a) in
      let second : get_or texts (k + 1) d ≡ b = ap (λ (n : ℕ). get_or texts n d) next ∙ (get_or_default texts i d b h ∙ sym at_b) in
      let P : Text → Type 0 = λ t. text_cmp t (get_or texts (k + 1) d) ≡ Less in
      let Q : Text → Type 0 = λ t. text_cmp a t ≡ Less in
      subst P (sym first) (subst Q (sym second) less)
]

pub all_ascend : (texts : List Text) (i : ℕ) → length texts ≤ i → AscendTo texts i → AllPairs (λ a b. text_cmp a b ≡ Less) texts
all_ascend texts i all so_far p q d before h =
    Less-from_sorted text_cmp texts p q d (sorted_from_all_adjacent nat_list_cmp_total texts d (λ k below. so_far k d (omega arith))) before h

pub pair_ascends : (texts : List Text) (i : ℕ) (a b : Text) → 1 ≤ i → i < length texts → a ≡ get_or texts (i - 1) a → b ≡ get_or texts i b → AllPairs (λ a b. text_cmp a b ≡ Less) texts → text_cmp a b ≡ Less
pair_ascends texts i a b low h at_a at_b all =
    let less : text_cmp (get_or texts (i - 1) a) (get_or texts i a) ≡ Less = all (i - 1) i a (omega arith) h in
    let second : get_or texts i a ≡ b = get_or_default texts i a b h ∙ sym at_b in
    let P : Text → Type 0 = λ t. text_cmp t (get_or texts i a) ≡ Less in
    let Q : Text → Type 0 = λ t. text_cmp a t ≡ Less in
    subst Q second (subst P (sym at_a) less)
