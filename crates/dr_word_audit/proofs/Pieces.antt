-- Texts that are written piece by piece.
use Rattle.std.proofs.Common.{◌≡◌, ◌∙◌, ◌++◌, ℕ, List, ap, append_assoc}

-- a piece behind what is there
pub behind : (a b p q : List ℕ) → p ≡ a → q ≡ p ++ b → q ≡ a ++ b
behind a b p q first later = later ∙ ap (λ (x : List ℕ). x ++ b) first

-- a piece behind what was added
pub chained : (o a b p q : List ℕ) → p ≡ o ++ a → q ≡ p ++ b → q ≡ o ++ (a ++ b)
chained o a b p q first later = later ∙ (ap (λ (x : List ℕ). x ++ b) first ∙ append_assoc o a b)
