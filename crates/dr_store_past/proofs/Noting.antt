-- Places that are noted, and the last one before a line.
use Rattle.std.proofs.Common.{◌≡◌, ◌+◌, ◌-◌, ◌<◌, ◌≤◌, inl, inr, ℕ, List, [], ◌∷◌, ◌++◌, length, take, All, Contains, slice_index_or}
use Rattle.std.proofs.Common.{refl, sym, ◌∙◌, ap, subst, arith}
use Rattle.std.proofs.lemmas.Bool.{cases_lt}
use Rattle.std.proofs.lemmas.List.{append-nil, append_assoc, get_or_append_left, get_or_default, length-append, take_all, take_more}
use Rattle.std.proofs.lemmas.List.Elements.{All-cons, All-contains, All-nil, All-push, Contains-append_left, Contains-push}
use Rattle.dr_ledger.specs.Books.{Line}
use Rattle.dr_store_sealed.specs.declared.seal.Seal.{Seal}
use Rattle.dr_store_sealed.specs.Seals.{first_seal}
use Rattle.dr_store_past.specs.Places.{IsFar, IsNoted, IsPlaceBefore, NotesPlaces, spacing}
use Rattle.dr_store_past.specs.Lines.{texts_behind}
use Rattle.dr_store_past.specs.Shown.{IsCleanPast, IsPlaceIn, ShowsPast}

-- none but the beginning
pub begun_at : (count : ℕ) (found : Seal) → found ≡ first_seal → IsPlaceBefore [] count found
begun_at count found is =
    subst (IsPlaceBefore [] count) (sym is)
    (record {
      known = (0, omega arith, refl);
      low = omega arith;
      last = All-cons (λ (other : Seal). other.count ≤ count → other.count ≤ first_seal.count) first_seal [] (λ low. omega arith)
          (All-nil (λ (other : Seal). other.count ≤ count → other.count ≤ first_seal.count));
    })

module _ (i : ℕ) (places : List Seal) (count : ℕ) (found place : Seal) (low : i < length places) (is : place ≡ slice_index_or places i place)
    (was : IsPlaceBefore (take i places) count found) where
  more : take i places ++ place ∷ [] ≡ take (i + 1) places
  more = ap (λ x. take i places ++ x ∷ []) is ∙ sym (take_more places i place low)

  -- the place is the last so far
  pub is_last : place.count ≤ count → found.count ≤ place.count → IsPlaceBefore (take (i + 1) places) count place
  is_last below up =
      subst (λ ps. IsPlaceBefore ps count place) more
      (record {
        known = Contains-push (first_seal ∷ take i places) place;
        low = below;
        last = All-push (λ (other : Seal). other.count ≤ count → other.count ≤ place.count) (first_seal ∷ take i places) place
            (λ k d less under. (let own = was.last k d less under in omega (arith, own, up))) (λ under. omega arith);
      })

  -- or it isn't
  pub is_other : (place.count ≤ count → place.count < found.count) → IsPlaceBefore (take (i + 1) places) count found
  is_other before =
      subst (λ ps. IsPlaceBefore ps count found) more
      (record {
        known = Contains-append_left (first_seal ∷ take i places) (place ∷ []) found was.known;
        low = was.low;
        last = All-push (λ (other : Seal). other.count ≤ count → other.count ≤ found.count) (first_seal ∷ take i places) place
            was.last (λ under. (let own = before under in omega (arith, own)));
      })

-- whichever of the two is the last then
looked_on : (i : ℕ) (places : List Seal) (count : ℕ) (found place next : Seal) → i < length places → place ≡ slice_index_or places i place
    → IsPlaceBefore (take i places) count found
    → (place.count ≤ count → found.count ≤ place.count → next ≡ place) → ((place.count ≤ count → place.count < found.count) → next ≡ found)
    → IsPlaceBefore (take (i + 1) places) count next
looked_on i places count found place next low is was later other =
    elim (cases_lt count place.count) [
      | inl over ↦
          subst (IsPlaceBefore (take (i + 1) places) count) (sym (other (λ under. omega (arith, under, over))))
          (is_other i places count found place low is was (λ under. omega (arith, under, over)))
      | inr under ↦ elim (cases_lt place.count found.count) [
        | inl less ↦
            subst (IsPlaceBefore (take (i + 1) places) count) (sym (other (λ it. less)))
            (is_other i places count found place low is was (λ it. less))
        | inr up ↦
            subst (IsPlaceBefore (take (i + 1) places) count) (sym (later under up))
            (is_last i places count found place low is was under up)
      ]
    ]

-- the same of an element as the program reads it
pub looked_at : (i : ℕ) (places : List Seal) (count : ℕ) (found next empty : Seal) → i < length places
    → IsPlaceBefore (take i places) count found
    → ((slice_index_or places i empty).count ≤ count → found.count ≤ (slice_index_or places i empty).count → next ≡ slice_index_or places i empty)
    → (((slice_index_or places i empty).count ≤ count → (slice_index_or places i empty).count < found.count) → next ≡ found)
    → IsPlaceBefore (take (i + 1) places) count next
looked_at i places count found next empty low was later other =
    let place = slice_index_or places i empty in
    looked_on i places count found place next low (get_or_default places i empty place low) was later other

pub all_looked : (i : ℕ) (places : List Seal) (count : ℕ) (found : Seal) → length places ≤ i → IsPlaceBefore (take i places) count found
    → IsPlaceBefore places count found
all_looked i places count found over was = subst (λ ps. IsPlaceBefore ps count found) (take_all i places over) was

module _ (places : List Seal) (place near : Seal) (it : IsPlaceBefore places place.count near) where
  pub is_far : spacing ≤ place.count - near.count → IsFar places place
  is_far wide = λ k d less under. (let own = it.last k d less under in let low = it.low in omega (arith, own, low, wide))

  pub not_far : place.count - near.count < spacing → IsFar places place → ⊥
  not_far narrow far =
      let own = All-contains (λ (other : Seal). other.count ≤ place.count → other.count + spacing ≤ place.count) (first_seal ∷ places) near far it.known it.low in
      omega (arith, own, narrow)

-- nothing is noted yet
pub none_noted : (True : Type 0) (files : List (List ℕ)) (seal : Seal) (places : List Seal)
    → All (λ (p : Seal). p.count ≤ seal.count) places → NotesPlaces True files seal places places
none_noted True files seal places within =
    record { more = []; behind = sym (append-nil places); within = within; are = λ all told it were. were }

module _ (True Still : Type 0) (files : List (List ℕ)) (seal : Seal) (old mid : List Seal) (was : NotesPlaces True files seal old mid) (before : Still → True) where
  pub noted_so_far : NotesPlaces Still files seal old mid
  noted_so_far = record { more = was.more; behind = was.behind; within = was.within; are = λ all told. was.are all (before told) }

  -- a place more
  pub noted_next : (place : Seal) (new : List Seal) → place.count ≤ seal.count
      → ((all : List Line) → Still → (it : ShowsPast all files seal) → All (IsPlaceIn (texts_behind 0 it.lines)) old → IsPlaceIn (texts_behind 0 it.lines) place)
      → IsNoted mid place new → NotesPlaces Still files seal old new
  noted_next place new low is noted =
      elim noted [
        | inl far ↦
            subst (NotesPlaces Still files seal old) (sym far.1)
            (record {
              more = was.more ++ place ∷ [];
              behind = ap (λ ps. ps ++ place ∷ []) was.behind ∙ append_assoc old was.more (place ∷ []);
              within = All-push (λ (p : Seal). p.count ≤ seal.count) mid place was.within low;
              are = λ all told it were.
                  All-push (IsPlaceIn (texts_behind 0 it.lines)) mid place (was.are all (before told) it were) (is all told it were);
            })
        | inr near ↦ subst (NotesPlaces Still files seal old) (sym near.1) noted_so_far
      ]

-- what a noted place is of, before and after
pub noted_known : (True : Type 0) (files : List (List ℕ)) (seal : Seal) (old new : List Seal) (place : Seal)
    → NotesPlaces True files seal old new → Contains old place → Contains new place
noted_known True files seal old new place notes known =
    subst (λ ps. Contains ps place) (sym notes.behind) (Contains-append_left old notes.more place known)

pub noted_were : (True : Type 0) (files : List (List ℕ)) (seal : Seal) (old new : List Seal) (P : Seal → Type 0)
    → NotesPlaces True files seal old new → All P new → All P old
noted_were True files seal old new P notes are =
    λ k d less.
    let whole = subst (All P) notes.behind are in
    let size = length-append old notes.more in
    subst P (get_or_append_left old notes.more d k less) (whole k d (omega (arith, less, size)))

module _ (all : List Line) (H K : Type 0) (files other : List (List ℕ)) (seal : Seal) (old new : List Seal) (same : other ≡ files) (notes : NotesPlaces H files seal old new) where
  -- what is shown is the past after places were noted, and so it was before
  pub clean_unread : (H → K) → IsCleanPast all H other seal new → IsCleanPast all K files seal old
  clean_unread before it =
      let was = subst (λ shown. IsCleanPast all H shown seal new) same it in
      record {
        honest = before was.honest;
        shows = was.shows;
        places = noted_were H files seal old new (IsPlaceIn (texts_behind 0 was.shows.lines)) notes was.places;
      }

  -- and the other way round
  pub clean_read : H → IsCleanPast all K files seal old → IsCleanPast all H other seal new
  clean_read honest it =
      subst (λ shown. IsCleanPast all H shown seal new) (sym same)
      (let is : IsCleanPast all H files seal new =
      record { honest = honest; shows = it.shows; places = notes.are all honest it.shows it.places } in is)
