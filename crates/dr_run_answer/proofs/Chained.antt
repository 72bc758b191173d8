-- Pieces that are added one behind another.
use Rattle.std.proofs.Common.{◌≡◌, ◌∙◌, ◌<◌, ◌+◌, ℕ, sym, ap, subst, List, [], ◌∷◌, ◌++◌, append_assoc, append-nil, flat_map, get_or, length, take}
pub use Rattle.dr_ledger_text.proofs.Chained.{chained}
use Rattle.std.proofs.lemmas.List.{take_more}
use Rattle.std.proofs.lemmas.Grind.{flat_map-append}

-- the pieces of the first elements of a list, and that of the next one
pub one_more : {X : Type 0} (f : X → List ℕ) (xs : List X) (i : ℕ) (d x : X) (o p q : List ℕ) → i < length xs → x ≡ get_or xs i d → p ≡ o ++ flat_map f (take i xs) → q ≡ p ++ f x → q ≡ o ++ flat_map f (take (i + 1) xs)
one_more {X} f xs i d x o p q within is first later =
    chained o (flat_map f (take i xs)) (f x) p q first later
    ∙ ap (λ (l : List ℕ). o ++ l)
    (sym (ap (flat_map f) (take_more xs i d within)
    ∙ (flat_map-append f (take i xs) (get_or xs i d ∷ [])
    ∙ (ap (λ (l : List ℕ). flat_map f (take i xs) ++ l) (append-nil (f (get_or xs i d)))
    ∙ ap (λ (y : X). flat_map f (take i xs) ++ f y) (sym is)))))
