-- Numbers that are met one after the other, none twice.
use Rattle.std.proofs.Common.{◌≡◌, ◌<◌, ◌+◌, ◌||◌, ◌++◌, ◌∷◌, [], ℕ, Bool, true, false, not, cond, List, refl, sym, ap, ◌∙◌, subst, take, length, nat_eq, get_or, arith}
use mathlib.Core.Bool.{true≢false}
use Rattle.std.specs.Ordering.{nat_cmp}
use Rattle.std.specs.List.{IsDistinct, list_any, Any}
use Rattle.std.specs.BTreeSet.{BTreeSet, contains, Updates, IsEmpty}
use Rattle.std.specs.Cmp.{nat_eq_equiv, unsigned_tied}
use Rattle.std.proofs.lemmas.List.{get_or-take, get_or_default, length-take, take_more}
use Rattle.std.proofs.lemmas.List.Folds.{list_any-append, Any-from_list_any}
use Rattle.std.proofs.lemmas.Map.Keys.{apart_from_distinct, IsDistinct-push}

pub none_apart : IsDistinct nat_eq []
unfolding IsDistinct
none_apart = tt

pub none_has : (s : BTreeSet ℕ) → IsEmpty s → (q : ℕ) → contains nat_cmp s q ≡ false
none_has s e q = ap (λ ks. list_any (λ k. tied q k) ks) e
  where
    tied : ℕ → ℕ → Bool
    tied q k = Rattle.std.specs.BTreeMap.is_at (nat_cmp q) k

either : (a b : Bool) → cond a true b ≡ (b || (a || false))
either true true = refl
either true false = refl
either false true = refl
either false false = refl

-- the set with one number more has what the longer list has
pub has_more : (old new : BTreeSet ℕ) (xs : List ℕ) (n : ℕ) → ((q : ℕ) → contains nat_cmp old q ≡ list_any (nat_eq q) xs) → Updates nat_cmp old new n true →
    (q : ℕ) → contains nat_cmp new q ≡ list_any (nat_eq q) (xs ++ n ∷ [])
has_more old new xs n h u q =
    let tie = unsigned_tied n q ∙ nat_eq_equiv.symm n q in
    u.0 q ∙ (ap (λ b. cond b true (contains nat_cmp old q)) tie ∙ (ap (λ b. cond (nat_eq q n) true b) (h q)
    ∙ (either (nat_eq q n) (list_any (nat_eq q) xs) ∙ sym (list_any-append (nat_eq q) xs (n ∷ [])))))

pub apart_more : (xs : List ℕ) (n : ℕ) → IsDistinct nat_eq xs → list_any (nat_eq n) xs ≡ false → IsDistinct nat_eq (xs ++ n ∷ [])
apart_more xs n d none = IsDistinct-push nat_eq_equiv xs n d none

-- a number that stands before it stands twice
pub twice : (all : List ℕ) (i n : ℕ) → i < length all → n ≡ get_or all i n → list_any (nat_eq n) (take i all) ≡ true → IsDistinct nat_eq all → ⊥
twice all i n below is h d =
    let a = Any-from_list_any (nat_eq n) (take i all) h in
    let k = a.0 in
    let x = a.1 in
    let short : k < i = omega (arith, a.2, length-take i all) in
    let read : get_or all k x ≡ x = sym (get_or-take i all k x short) ∙ a.3 in
    let here : get_or all i x ≡ n = get_or_default all i x n below ∙ sym is in
    let no : nat_eq (get_or all k x) (get_or all i x) ≡ false = apart_from_distinct nat_eq all k i x d short below in
    let no' : nat_eq x n ≡ false = sym (ap (λ y. nat_eq y (get_or all i x)) read ∙ ap (nat_eq x) here) ∙ no in
    true≢false (sym (sym no' ∙ (nat_eq_equiv.symm x n ∙ a.4)))

not_not : (a b : Bool) → a ≡ not b → b ≡ not a
not_not true true e = e
not_not true false e = refl
not_not false true e = refl
not_not false false e = e

-- what inserting a number says: whether it was there
pub was_there : (a b : Bool) → a ≡ not b → a ≡ false → b ≡ true
was_there a b e f = not_not a b e ∙ ap not f

pub was_not : (a b : Bool) → a ≡ not b → a ≡ true → b ≡ false
was_not a b e f = not_not a b e ∙ ap not f

-- the set has what the longer beginning has, and no number of it stands twice
pub goes_on : (all : List ℕ) (i : ℕ) (old new : BTreeSet ℕ) → i < length all → ((q : ℕ) → contains nat_cmp old q ≡ list_any (nat_eq q) (take i all)) → IsDistinct nat_eq (take i all) →
    contains nat_cmp old (get_or all i 0) ≡ false → Updates nat_cmp old new (get_or all i 0) true →
    ((q : ℕ) → contains nat_cmp new q ≡ list_any (nat_eq q) (take (i + 1) all)) × IsDistinct nat_eq (take (i + 1) all)
goes_on all i old new below has apart none u =
    let n = get_or all i 0 in
    let more = take_more all i 0 below in
    let Has : List ℕ → Type 0 = λ xs. (q : ℕ) → contains nat_cmp new q ≡ list_any (nat_eq q) xs in
    let Apart : List ℕ → Type 0 = λ xs. IsDistinct nat_eq xs in (
      subst Has (sym more) (has_more old new (take i all) n has u),
      subst Apart (sym more) (apart_more (take i all) n apart (sym (has n) ∙ none)),
    )
