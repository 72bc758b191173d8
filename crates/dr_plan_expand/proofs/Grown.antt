-- A text that grows by one piece for each element of a list.
use Rattle.std.proofs.Common.{◌≡◌, ℕ, ◌+◌, ◌<◌, sym, ◌∙◌, ap, List, [], ◌∷◌, ◌++◌, length, get_or, take, append_assoc}
use Rattle.std.specs.Prelude.{flat_map}
use Rattle.std.proofs.lemmas.List.{take_more, append-nil}

flat_map-push : {X : Type 0} (f : X → List ℕ) (xs : List X) (x : X) → flat_map f (xs ++ x ∷ []) ≡ flat_map f xs ++ f x
flat_map-push f [] x = append-nil (f x)
flat_map-push f (y ∷ xs) x = ap (λ t. f y ++ t) (flat_map-push f xs x) ∙ sym (append_assoc (f y) (flat_map f xs) (f x))

pub grown : {X : Type 0} (f : X → List ℕ) (xs : List X) (i : ℕ) (x : X) (start out now piece : List ℕ) → i < length xs → x ≡ get_or xs i x → out ≡ start ++ flat_map f (take i xs) → piece ≡ f x →
    now ≡ out ++ piece → now ≡ start ++ flat_map f (take (i + 1) xs)
grown f xs i x start out now piece lt at so_far is grows =
    let more : take (i + 1) xs ≡ take i xs ++ x ∷ [] = rw (← at) at (take_more xs i x lt) in
    let whole : flat_map f (take (i + 1) xs) ≡ flat_map f (take i xs) ++ f x = ap (flat_map f) more ∙ flat_map-push f (take i xs) x in
    grows ∙ ((λ k. so_far k ++ is k) ∙ (append_assoc start (flat_map f (take i xs)) (f x) ∙ ap (λ t. start ++ t) (sym whole)))
