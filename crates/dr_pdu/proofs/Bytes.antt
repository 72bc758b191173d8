-- Numbers in front of a text.
use Rattle.std.proofs.Common.{◌≡◌, ℕ, ◌+◌, ◌*◌, ◌/◌, ◌%◌, ◌^◌, ◌<◌, ◌≤◌, List, [], ◌∷◌, length, get_or, drop, refl, arith}
use Rattle.std.specs.Int.{w16, w32, to_be_bytes}

abbrev pub IsBytes : List ℕ → Type 0
IsBytes bytes = (i : ℕ) → get_or bytes i 0 < 256

pub front4 : (text : List ℕ) → 4 ≤ length text → text ≡ get_or text 0 0 ∷ get_or text 1 0 ∷ get_or text 2 0 ∷ get_or text 3 0 ∷ drop 4 text
front4 [] h = absurd (omega arith)
front4 (a ∷ []) h = absurd (omega arith)
front4 (a ∷ b ∷ []) h = absurd (omega arith)
front4 (a ∷ b ∷ c ∷ []) h = absurd (omega arith)
front4 (a ∷ b ∷ c ∷ d ∷ rest) h = refl

-- two bytes are the two bytes of their number
pub two_bytes : (a b n : ℕ) → a < 256 → b < 256 → n ≡ a * 256 + b → to_be_bytes w16 n ≡ a ∷ b ∷ []
two_bytes a b n ha hb e =
    let high : n / 256 % 256 ≡ a = omega arith in
    let low : n % 256 ≡ b = omega arith in
    rw (high, low) refl

pub four_bytes : (a b c d n : ℕ) → a < 256 → b < 256 → c < 256 → d < 256 → n ≡ ((a * 256 + b) * 256 + c) * 256 + d → to_be_bytes w32 n ≡ a ∷ b ∷ c ∷ d ∷ []
four_bytes a b c d n ha hb hc hd e =
    let h : n / 256 ^ 3 % 256 ≡ a = omega arith in
    let i : n / 256 ^ 2 % 256 ≡ b = omega arith in
    let j : n / 256 ^ 1 % 256 ≡ c = omega arith in
    let k : n % 256 ≡ d = omega arith in
    rw (h, i, j, k) refl
