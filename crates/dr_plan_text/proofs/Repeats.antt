-- Texts without repeats, gathered in a set.
use Rattle.std.proofs.Common.{◌≡◌, ◌≢◌, ℕ, ◌+◌, ◌<◌, ◌↔◌, inl, inr, refl, sym, ◌∙◌, ap, subst, Bool, true, false, not, List, [], ◌∷◌, ◌++◌, length, get_or, take, drop, Contains, IsTrue, nat_cmp, arith, length-append}
use Rattle.std.specs.Prelude.{AllPairs}
use Rattle.std.specs.BTreeSet.{BTreeSet, contains, Updates}
use Rattle.std.specs.Cmp.Lexicographic.{slice_cmp, nat_list_cmp_total}
use Rattle.std.proofs.lemmas.Map.Lookups.{exact_bytes}
use Rattle.std.proofs.lemmas.Map.Views.{btree_set_contains_iff}
use Rattle.std.proofs.lemmas.List.{take_more, drop_more, take-append-drop, get_or_append_left}
use Rattle.std.proofs.Math.Seq.{get_or-append_seam}
use Rattle.std.proofs.lemmas.List.Elements.{Contains-push_cases, Contains-push, Contains-append_left, Contains-get_or}
use Rattle.std.proofs.lemmas.List.Quantifiers.{all_pairs_push}
use Rattle.dr_base.specs.Texts.{Text}
use Rattle.dr_route.specs.Names.{HasName}
use Rattle.dr_route.specs.Names.{AddsName}
use Rattle.dr_route.proofs.NameSets.{adds}

-- the set has these texts, and none of them stands there twice
pub record Seen (seen : BTreeSet Text) (done : List Text) : Type 0 where
  pub same : (t : Text) → HasName seen t ↔ Contains done t
  pub apart : AllPairs (λ s t. s ≢ t) done

members : (s : BTreeSet Text) (t : Text) → IsTrue (contains (slice_cmp nat_cmp) s t) ↔ HasName s t
members s t = btree_set_contains_iff nat_list_cmp_total exact_bytes s t

pub nothing_seen : (seen : BTreeSet Text) → seen.keys ≡ [] → Seen seen []
nothing_seen seen e = record {
  same = λ t. (λ had. rw e at had, λ among. let lt : among.0 < 0 = among.1 in absurd (omega arith));
  apart = λ i j d i_lt j_lt. absurd (omega arith);
}

not_true : (b : Bool) → true ≡ not b → IsTrue b → ⊥
not_true true e h = cc
not_true false e h = cc

is_true : (b : Bool) → false ≡ not b → IsTrue b
is_true true e = refl
is_true false e = cc

pub seen_more : (seen new : BTreeSet Text) (done : List Text) (t : Text) → Seen seen done → Updates (slice_cmp nat_cmp) seen new t true →
    true ≡ not (contains (slice_cmp nat_cmp) seen t) → Seen new (done ++ t ∷ [])
seen_more seen new done t so_far updates fresh =
    let a : AddsName seen new t = adds seen new t updates in
    record {
      same = λ s. (
        λ had. elim (a.only s had) [
          | inl before ↦ Contains-append_left done (t ∷ []) s ((so_far.same s).0 before)
          | inr same ↦ rw (← same) (Contains-push done t)
        ],
        λ among. elim (Contains-push_cases done t s among) [
          | inl before ↦ a.kept s ((so_far.same s).1 before)
          | inr same ↦ rw (← same) a.added
        ],
      );
      apart = all_pairs_push (λ s t. s ≢ t) done t so_far.apart
          (λ k d k_lt same. not_true _ fresh ((members seen t).1 ((so_far.same t).1 (rw same at (Contains-get_or done k d k_lt)))));
    }

-- a text that was seen stands there twice
pub seen_twice : (seen : BTreeSet Text) (done rest : List Text) (t : Text) → Seen seen done → false ≡ not (contains (slice_cmp nat_cmp) seen t) →
    AllPairs (λ s t. s ≢ t) (done ++ t ∷ rest) → ⊥
seen_twice seen done rest t so_far old apart =
    let among : Contains done t = (so_far.same t).0 ((members seen t).0 (is_true _ old)) in
    let first : get_or (done ++ t ∷ rest) among.0 t ≡ t = get_or_append_left done (t ∷ rest) t among.0 among.1 ∙ among.2 in
    let last : get_or (done ++ t ∷ rest) (length done) t ≡ t = get_or-append_seam done t rest t in
    let lt : among.0 < length done = among.1 in
    let room : length done < length (done ++ t ∷ rest) = omega (arith, length-append done (t ∷ rest)) in
    apart among.0 (length done) t lt room (first ∙ sym last)

-- the text at an index, and those before and behind it
pub parted : (texts : List Text) (i : ℕ) (t : Text) → i < length texts → t ≡ get_or texts i t → texts ≡ take i texts ++ t ∷ drop (i + 1) texts
parted texts i t h at =
    let e = drop_more texts i t h in
    let rest : drop i texts ≡ t ∷ drop (i + 1) texts = rw (← at) at e in
    sym (take-append-drop i texts) ∙ ap (λ (ys : List Text). take i texts ++ ys) rest

pub one_more : (texts : List Text) (i : ℕ) (t : Text) → i < length texts → t ≡ get_or texts i t → take (i + 1) texts ≡ take i texts ++ t ∷ []
one_more texts i t h at = let e = take_more texts i t h in rw (← at) at e

-- one more text of the list is seen, for the first time or again
pub seen_one_more : (seen new : BTreeSet Text) (texts : List Text) (i : ℕ) (t copy : Text) (added : Bool) → i < length texts → t ≡ get_or texts i t → copy ≡ t → Seen seen (take i texts) →
    Updates (slice_cmp nat_cmp) seen new copy true → added ≡ not (contains (slice_cmp nat_cmp) seen copy) → added ≡ true → Seen new (take (i + 1) texts)
seen_one_more seen new texts i t copy added h at is so_far updates told fresh =
    rw (one_more texts i t h at) (seen_more seen new (take i texts) t so_far (rw is at updates) (rw is at (sym fresh ∙ told)))

pub seen_again : (seen : BTreeSet Text) (texts : List Text) (i : ℕ) (t copy : Text) (added : Bool) → i < length texts → t ≡ get_or texts i t → copy ≡ t → Seen seen (take i texts) →
    added ≡ not (contains (slice_cmp nat_cmp) seen copy) → added ≡ false → AllPairs (λ s t. s ≢ t) texts → ⊥
seen_again seen texts i t copy added h at is so_far told old apart =
    seen_twice seen (take i texts) (drop (i + 1) texts) t so_far (rw is at (sym old ∙ told))
    (let P : List Text → Type 0 = λ xs. AllPairs (λ s t. s ≢ t) xs in subst P (parted texts i t h at) apart)
