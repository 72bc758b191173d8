-- Padding at the end of a text.
use Rattle.std.proofs.Common.{◌≡◌, ℕ, suc, ◌-◌, ◌<◌, true, false, List, [], ◌∷◌, length, get_or, take, refl, ap, arith}
use Rattle.dr_base.specs.Padding.{is_padding, onto, unpadded}

-- what a list ends with, when one more stands in front
last_of : (b c : ℕ) (cs : List ℕ) → get_or (b ∷ c ∷ cs) (length (b ∷ c ∷ cs) - 1) 0 ≡ get_or (c ∷ cs) (length (c ∷ cs) - 1) 0
last_of b c cs = let e : suc (suc (length cs)) - 1 ≡ suc (suc (length cs) - 1) = omega arith in rw e refl

front_of : (b c : ℕ) (cs : List ℕ) → take (length (b ∷ c ∷ cs) - 1) (b ∷ c ∷ cs) ≡ b ∷ take (length (c ∷ cs) - 1) (c ∷ cs)
front_of b c cs = let e : suc (suc (length cs)) - 1 ≡ suc (suc (length cs) - 1) = omega arith in rw e refl

pub unpadded_goes_on : (text : List ℕ) → 0 < length text → is_padding (get_or text (length text - 1) 0) ≡ true → unpadded (take (length text - 1) text) ≡ unpadded text
unpadded_goes_on [] h pad = absurd (omega arith)
unpadded_goes_on (b ∷ []) h pad = rw pad refl
unpadded_goes_on (b ∷ c ∷ cs) h pad =
    rw (front_of b c cs) (ap (onto b) (unpadded_goes_on (c ∷ cs) (omega arith) (rw (← last_of b c cs) pad)))

pub unpadded_ends : (text : List ℕ) → 0 < length text → is_padding (get_or text (length text - 1) 0) ≡ false → unpadded text ≡ text
unpadded_ends [] h pad = absurd (omega arith)
unpadded_ends (b ∷ []) h pad = rw pad refl
unpadded_ends (b ∷ c ∷ cs) h pad = rw (unpadded_ends (c ∷ cs) (omega arith) (rw (← last_of b c cs) pad)) refl
