-- What a sort by texts leaves of values with different texts.
use Rattle.std.proofs.Common.{◌≡◌, ◌≢◌, ◌↔◌, suc, false, List, [], ◌∷◌, ◌++◌, map, length, get_or, refl, sym, ap, ◌∙◌, arith}
use Rattle.std.specs.Prelude.{All, AllPairs, Contains}
use Rattle.std.specs.List.Sorted.{IsPermutation, IsSorted}
use Rattle.std.specs.Ordering.{nat_cmp, on, is_lt, ordering_reverse}
use Rattle.std.specs.declared.cmp.Ordering.{Ordering}
use Rattle.std.specs.declared.cmp.Ordering.TheVariants.{Less, Equal, Greater}
use Rattle.std.specs.Cmp.Lexicographic.{slice_cmp, nat_list_cmp_total, nat_list_eq_equiv}
use Rattle.std.specs.Str.{bytes_eq}
use Rattle.std.proofs.lemmas.List.Elements.{All-map, All-cons, All-head, All-tail}
use Rattle.std.proofs.lemmas.List.Kept.{AllPairs-cons}
use Rattle.std.proofs.lemmas.List.Sorted.{IsPermutation-map, IsPermutation-sym, Contains-permutation, sorted_far, ranks_by, All-permutation, length_permutation}
use Rattle.std.proofs.lemmas.Map.Made.{AllPairs-from_IsDistinct, IsDistinct-from_AllPairs}
use Rattle.std.proofs.lemmas.Map.Keys.{IsDistinct-IsPermutation}
use Rattle.std.proofs.lemmas.Map.Lookups.{exact_bytes}
use Rattle.std.proofs.lemmas.Slice.Eq.{bytes_eq-Decides}
use Rattle.dr_base.specs.Texts.{Text, text_cmp}

module _ {X : Type 0} (R : X → X → Type 0) where
  pub AllPairs-head : (x : X) (xs : List X) → AllPairs R (x ∷ xs) → All (R x) xs
  AllPairs-head x xs h = λ k d lt. h 0 (suc k) d (omega arith) (omega arith)

  pub AllPairs-tail : (x : X) (xs : List X) → AllPairs R (x ∷ xs) → AllPairs R xs
  AllPairs-tail x xs h = λ i j d lt long. h (suc i) (suc j) d (omega arith) (omega arith)

  pub AllPairs-nil : AllPairs R []
  AllPairs-nil = λ i j d lt long. absurd (omega arith)

module _ {X Y : Type 0} (f : X → Y) where
  pub All-unmap : (P : Y → Type 0) (xs : List X) → All P (map f xs) → All (λ x. P (f x)) xs
  All-unmap P [] h = λ k d lt. absurd (omega arith)
  All-unmap P (x ∷ xs) h = All-cons (λ y. P (f y)) x xs (All-head P (f x) (map f xs) h) (All-unmap P xs (All-tail P (f x) (map f xs) h))

  pub AllPairs-map : (R : Y → Y → Type 0) (xs : List X) → AllPairs (λ a b. R (f a) (f b)) xs → AllPairs R (map f xs)
  AllPairs-map R [] h = AllPairs-nil R
  AllPairs-map R (x ∷ xs) h =
      AllPairs-cons R (f x) (map f xs) (All-map (R (f x)) f xs (AllPairs-head (λ a b. R (f a) (f b)) x xs h)) (AllPairs-map R xs (AllPairs-tail (λ a b. R (f a) (f b)) x xs h))

  pub AllPairs-unmap : (R : Y → Y → Type 0) (xs : List X) → AllPairs R (map f xs) → AllPairs (λ a b. R (f a) (f b)) xs
  AllPairs-unmap R [] h = AllPairs-nil (λ (a b : X). R (f a) (f b))
  AllPairs-unmap R (x ∷ xs) h =
      AllPairs-cons (λ a b. R (f a) (f b)) x xs (All-unmap (R (f x)) xs (AllPairs-head R (f x) (map f xs) h)) (AllPairs-unmap R xs (AllPairs-tail R (f x) (map f xs) h))

-- values that are mapped alike
pub map_agree : {X Y : Type 0} (f g : X → Y) (xs : List X) → All (λ x. f x ≡ g x) xs → map f xs ≡ map g xs
map_agree f g [] h = refl
map_agree f g (x ∷ xs) h =
    let first : f x ≡ g x = All-head (λ x. f x ≡ g x) x xs h in
    let others : map f xs ≡ map g xs = map_agree f g xs (All-tail (λ x. f x ≡ g x) x xs h) in
    cc

pub map-map : {X Y Z : Type 0} (f : X → Y) (g : Y → Z) (xs : List X) → map g (map f xs) ≡ map (λ x. g (f x)) xs
map-map f g [] = refl
map-map f g (x ∷ xs) = ap (λ zs. g (f x) ∷ zs) (map-map f g xs)

-- one more of the items has its text
pub one_more : {X P : Type 0} (item : X → P) (xs : List X) (x : X) (left rest items : List P) → map item xs ++ left ≡ items → left ≡ item x ∷ rest → map item (xs ++ x ∷ []) ++ rest ≡ items
one_more {X} item xs x left rest items so_far next = pushed xs ∙ rw (← next) so_far
  where
    pushed : (ys : List X) → map item (ys ++ x ∷ []) ++ rest ≡ map item ys ++ item x ∷ rest
    pushed [] = refl
    pushed (y ∷ ys) = ap (λ zs. item y ∷ zs) (pushed ys)

-- different texts, of which the second isn't first, are in order
less_from : (a b : Text) → is_lt (text_cmp b a) ≡ false → a ≢ b → text_cmp a b ≡ Less
less_from a b up apart = by_answer (text_cmp b a) refl
  where
    by_answer : (o : Ordering) → text_cmp b a ≡ o → text_cmp a b ≡ Less
    by_answer Less e = let h : is_lt Less ≡ false = rw e at up in absurd (cc)
    by_answer Equal e = absurd (apart (sym (exact_bytes b a e)))
    by_answer Greater e = nat_list_cmp_total.antisymm a b ∙ ap ordering_reverse e

-- texts in another order are as different
still_apart : (xs ys : List Text) → IsPermutation xs ys → AllPairs (λ a b. a ≢ b) xs → AllPairs (λ a b. a ≢ b) ys
still_apart xs ys moved apart =
    AllPairs-from_IsDistinct bytes_eq-Decides ys
    (IsDistinct-IsPermutation bytes_eq nat_list_eq_equiv.symm xs ys moved (IsDistinct-from_AllPairs bytes_eq-Decides xs apart))

module _ {X P : Type 0} (text : X → Text) (item : X → P) (printed : P → Text) where
  pub in_order : (xs ys : List X) (items : List P) → map item xs ≡ items → All (λ k. text k ≡ printed (item k)) xs → IsPermutation xs ys →
      IsSorted (on text (slice_cmp nat_cmp)) ys → AllPairs (λ a b. printed a ≢ printed b) items → AllPairs (λ a b. text_cmp (printed a) (printed b) ≡ Less) (map item ys)
  in_order xs ys items are texts moved sorted apart =
      let texts_are : map text xs ≡ map printed items = map_agree text (λ k. printed (item k)) xs texts ∙ sym (map-map item printed xs) ∙ ap (map printed) are in
      let given : AllPairs (λ a b. a ≢ b) (map text xs) = rw texts_are (AllPairs-map printed (λ a b. a ≢ b) items apart) in
      let found : AllPairs (λ a b. text a ≢ text b) ys = AllPairs-unmap text (λ a b. a ≢ b) ys (still_apart (map text xs) (map text ys) (IsPermutation-map text xs ys moved) given) in
      let known : All (λ k. text k ≡ printed (item k)) ys = All-permutation (λ k. text k ≡ printed (item k)) xs ys moved texts in
      AllPairs-map item (λ a b. text_cmp (printed a) (printed b) ≡ Less) ys
      (λ i j d lt long.
      let up : is_lt (text_cmp (text (get_or ys j d)) (text (get_or ys i d))) ≡ false = sorted_far _ (ranks_by nat_list_cmp_total text) ys sorted i j d (omega arith) long in
      let here : text (get_or ys i d) ≡ printed (item (get_or ys i d)) = known i d (omega arith) in
      let there : text (get_or ys j d) ≡ printed (item (get_or ys j d)) = known j d long in
      rw (← here, ← there) (less_from _ _ up (found i j d lt long)))

  pub same_items : (xs ys : List X) (items : List P) → map item xs ≡ items → IsPermutation xs ys → (x : P) → Contains (map item ys) x ↔ Contains items x
  same_items xs ys items are moved x =
      let m : IsPermutation items (map item ys) = rw (← are) (IsPermutation-map item xs ys moved) in
      (λ h. Contains-permutation (map item ys) items x (IsPermutation-sym items (map item ys) m) h, λ h. Contains-permutation items (map item ys) x m h)

pub same_length : {X P : Type 0} (item : X → P) (xs ys : List X) (items : List P) → map item xs ≡ items → IsPermutation xs ys → length (map item ys) ≡ length items
same_length item xs ys items are moved = length_permutation _ _ (IsPermutation-map item xs ys moved) ∙ ap (λ zs. length zs) are
