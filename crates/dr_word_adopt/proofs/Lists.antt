-- Lists that grow at their end.
use Rattle.std.proofs.Common.{◌≡◌, ◌∙◌, ◌++◌, ◌∷◌, [], ◌+◌, ◌<◌, ℕ, List, map, take, drop, get_or, length, suc, refl, sym, ap}
use Rattle.std.proofs.lemmas.List.{take_more, take-append-drop}
use Rattle.std.proofs.Math.Seq.{drop-cons}

-- one more value, by what is shown of it
pub shows_more : {X Y : Type 0} (show : X → Y) (xs : List X) (x : X) (ys : List Y) (i : ℕ) (y : Y) → i < length ys → y ≡ get_or ys i y → map show xs ≡ take i ys → show x ≡ y
    → map show (xs ++ x ∷ []) ≡ take (i + 1) ys
shows_more {X} {Y} show xs x ys i y lt at so_far one = pushed xs ∙ ap (λ (zs : List Y). zs ++ show x ∷ []) so_far ∙ ap (λ (z : Y). take i ys ++ z ∷ []) (one ∙ at) ∙ sym (take_more ys i y lt)
  where
    pushed : (zs : List X) → map show (zs ++ x ∷ []) ≡ map show zs ++ show x ∷ []
    pushed [] = refl
    pushed (z ∷ zs) = ap (λ (ws : List Y). show z ∷ ws) (pushed zs)

-- a list is what stands before a place, what stands there, and the rest
pub cut_at : {X : Type 0} (xs : List X) (i : ℕ) (x : X) → i < length xs → x ≡ get_or xs i x → xs ≡ take i xs ++ x ∷ drop (suc i) xs
cut_at {X} xs i x lt at = sym (take-append-drop i xs) ∙ ap (λ (ys : List X). take i xs ++ ys) (drop-cons xs i x lt) ∙ ap (λ (y : X). take i xs ++ y ∷ drop (suc i) xs) (sym at)
