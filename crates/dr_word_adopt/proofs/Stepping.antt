-- A slice whose elements are changed one after the other.
use Rattle.std.proofs.Common.{◌≡◌, ◌∙◌, ◌++◌, ◌∷◌, [], ◌+◌, ◌<◌, ◌≤◌, ℕ, List, take, drop, set, get_or, length, suc, sym, ap, subst, arith}
use Rattle.std.proofs.lemmas.List.{append-nil, drop_all, drop_more, drop-set-lt, take_all, take-append-drop, take_more, take_more_set, set_split}
use Rattle.dr_base.specs.Lists.{Each}

abbrev first_or : {X : Type 0} → X → List X → X
first_or d [] = d
first_or d (x ∷ xs) = x

abbrev rest_of : {X : Type 0} → List X → List X
rest_of [] = []
rest_of (x ∷ xs) = xs

module _ {X : Type 0} (R : X → X → Type 0) where
  pub each_push : (xs ys : List X) (x y : X) → Each R xs ys → R x y → Each R (xs ++ x ∷ []) (ys ++ y ∷ [])
  each_push [] [] x y h r = (r, tt)
  each_push [] (b ∷ ys) x y h r = absurd h
  each_push (a ∷ xs) [] x y h r = absurd h
  each_push (a ∷ xs) (b ∷ ys) x y h r = (h.0, each_push xs ys x y h.1 r)

  module _ (xs ys : List X) (i : ℕ) (d : X) (long : length ys ≡ length xs) (lt : i < length ys) (left : drop i ys ≡ drop i xs) where
    there : i < length xs
    there = omega (arith, long, lt)

    both : get_or ys i d ∷ drop (i + 1) ys ≡ get_or xs i d ∷ drop (i + 1) xs
    both = sym (drop_more ys i d lt) ∙ left ∙ drop_more xs i d there

    -- what is there was there
    pub same_here : get_or ys i d ≡ get_or xs i d
    same_here = ap (first_or d) both

    same_rest : drop (i + 1) ys ≡ drop (i + 1) xs
    same_rest = ap rest_of both

    pub left_more : (v : X) → drop (i + 1) (set ys i v) ≡ drop (i + 1) xs
    left_more v = drop-set-lt (i + 1) ys i v (omega arith) ∙ same_rest

    -- one more was changed
    pub each_more : (v : X) → Each R (take i xs) (take i ys) → R (get_or xs i d) v → Each R (take (i + 1) xs) (take (i + 1) (set ys i v))
    each_more v so_far r =
        subst (λ zs. Each R zs (take (i + 1) (set ys i v))) (sym (take_more xs i d there))
        (subst (λ zs. Each R (take i xs ++ get_or xs i d ∷ []) zs) (sym (take_more_set ys i v lt)) (each_push (take i xs) (take i ys) (get_or xs i d) v so_far r))

    pub was_cut : xs ≡ take i xs ++ get_or xs i d ∷ drop (i + 1) xs
    was_cut = sym (take-append-drop i xs) ∙ ap (λ zs. take i xs ++ zs) (drop_more xs i d there)

    pub now_cut : (v : X) → set ys i v ≡ take i ys ++ v ∷ drop (i + 1) xs
    now_cut v =
        let on : suc i ≡ i + 1 = omega arith in
        set_split ys i v lt ∙ ap (λ n. take i ys ++ v ∷ drop n ys) on ∙ ap (λ zs. take i ys ++ v ∷ zs) same_rest

  -- all were changed
  pub each_all : (xs ys : List X) (i : ℕ) → length xs ≤ i → length ys ≤ i → Each R (take i xs) (take i ys) → Each R xs ys
  each_all xs ys i a b h = subst (λ zs. Each R zs ys) (take_all i xs a) (subst (Each R (take i xs)) (take_all i ys b) h)

-- what a slice of all of a vector's elements leaves in it
pub back : {X : Type 0} (old new : List X) (len : ℕ) → length new ≡ length old → length old ≡ len → take len (new ++ drop (length new) old) ≡ new
back old new len same long =
    let none : drop (length new) old ≡ [] = drop_all (length new) old (omega (arith, same)) in
    ap (λ zs. take len (new ++ zs)) none ∙ ap (take len) (append-nil new) ∙ take_all len new (omega (arith, same, long))
