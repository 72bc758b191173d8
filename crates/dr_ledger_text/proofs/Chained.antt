-- Pieces that are added one behind another.
use Rattle.std.proofs.Common.{◌≡◌, ◌∙◌, ℕ, ap, List, ◌++◌, append_assoc}

-- a piece, and what was added behind it
pub chained : (o a b p q : List ℕ) → p ≡ o ++ a → q ≡ p ++ b → q ≡ o ++ (a ++ b)
chained o a b p q first later = later ∙ (ap (λ (x : List ℕ). x ++ b) first ∙ append_assoc o a b)
