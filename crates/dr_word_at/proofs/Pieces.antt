-- Texts that are written piece by piece.
use Rattle.std.proofs.Common.{◌≡◌, ◌∙◌, ◌++◌, ◌∷◌, [], ℕ, List, ap, append_assoc, sym}
use Rattle.std.proofs.lemmas.List.{append-nil}

-- a piece behind what was added
pub chained : (o a b p q : List ℕ) → p ≡ o ++ a → q ≡ p ++ b → q ≡ o ++ (a ++ b)
chained o a b p q first later = later ∙ (ap (λ (x : List ℕ). x ++ b) first ∙ append_assoc o a b)

-- one, two and three fields
pub one_field : (o a p : List ℕ) → p ≡ o ++ a → p ≡ o ++ (a ++ [])
one_field o a p is = is ∙ ap (λ (x : List ℕ). o ++ x) (sym (append-nil a))

pub two_fields : (o a b p q : List ℕ) → p ≡ o ++ a → q ≡ p ++ b → q ≡ o ++ (a ++ (b ++ []))
two_fields o a b p q first later = chained o a b p q first later ∙ ap (λ (x : List ℕ). o ++ (a ++ x)) (sym (append-nil b))

pub three_fields : (o a b c p q r : List ℕ) → p ≡ o ++ a → q ≡ p ++ b → r ≡ q ++ c → r ≡ o ++ (a ++ (b ++ (c ++ [])))
three_fields o a b c p q r first second third =
    chained o (a ++ b) c q r (chained o a b p q first second) third ∙ ap (λ (x : List ℕ). o ++ x) (append_assoc a b c ∙ ap (λ (x : List ℕ). a ++ (b ++ x)) (sym (append-nil c)))

-- a line of a word, two fields, further fields, and its end
pub as_row : (w u d f l : List ℕ) → w ++ u ++ d ++ f ++ l ≡ (w ++ (u ++ (d ++ f))) ++ l
as_row w u d f l = simp append_assoc
