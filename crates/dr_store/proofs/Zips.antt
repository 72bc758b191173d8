-- Two lists side by side, whose elements are related pair by pair.
use Rattle.std.proofs.Common.{◌≡◌, ℕ, zero, suc, ◌+◌, ◌<◌, List, [], ◌∷◌, ◌++◌, length, get_or, take, sym, subst, arith}
use Rattle.std.specs.List.{AllZip}
use Rattle.std.proofs.lemmas.List.{take_more}

module _ {A B : Type 0} (R : A → B → Type 0) where
  zip_push : (xs : List A) (ys : List B) (x : A) (y : B) → AllZip R xs ys → R x y → AllZip R (xs ++ x ∷ []) (ys ++ y ∷ [])
  zip_push [] [] x y z r = (r, tt)
  zip_push [] (b ∷ bs) x y z r = absurd z
  zip_push (a ∷ as') [] x y z r = absurd z
  zip_push (a ∷ as') (b ∷ bs) x y z r = (z.0, zip_push as' bs x y z.1 r)

  pub zip_more : (xs : List A) (ys : List B) (i : ℕ) (x : A) (y : B) → i < length xs → x ≡ get_or xs i x → AllZip R (take i xs) ys → R x y → AllZip R (take (i + 1) xs) (ys ++ y ∷ [])
  zip_more xs ys i x y lt is z r =
      let P : List A → Type 0 = λ all. AllZip R all (ys ++ y ∷ []) in
      let Q : A → Type 0 = λ last. AllZip R (take i xs ++ last ∷ []) (ys ++ y ∷ []) in
      subst P (sym (take_more xs i x lt)) (subst Q is (zip_push (take i xs) ys x y z r))

  pub zip_at : (xs : List A) (ys : List B) (i : ℕ) (d : A) (e : B) → AllZip R xs ys → i < length ys → R (get_or xs i d) (get_or ys i e)
  zip_at [] [] i d e z lt = absurd (omega (arith, lt))
  zip_at [] (b ∷ bs) i d e z lt = absurd z
  zip_at (a ∷ as') [] i d e z lt = absurd z
  zip_at (a ∷ as') (b ∷ bs) zero d e z lt = z.0
  zip_at (a ∷ as') (b ∷ bs) (suc i) d e z lt = zip_at as' bs i d e z.1 (omega (arith, lt))
