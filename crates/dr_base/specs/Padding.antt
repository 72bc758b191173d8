-- Padding of values (PS3.5 section 6.2): a name or a UID may be followed by spaces and NULs, and a
-- title also has spaces in front that don't count.
use Rattle.std.specs.Prelude.{ℕ, Bool, List, [], ◌∷◌, ◌==◌, ◌||◌, if◌then◌else◌}

-- the byte is one that pads values: a NUL or a space (PS3.5 6.2)
abbrev pub is_padding : ℕ → Bool
is_padding b = (b == 0) || (b == 32)

-- one byte in front of a text that has no padding at its end
abbrev pub onto : ℕ → List ℕ → List ℕ
onto b [] = if is_padding b then [] else b ∷ []
onto b (c ∷ cs) = b ∷ c ∷ cs

-- a value without the padding at its end: `1.2.3` and a NUL is `1.2.3`
abbrev pub unpadded : List ℕ → List ℕ
unpadded [] = []
unpadded (b ∷ bs) = onto b (unpadded bs)

-- a value without the spaces in front
abbrev pub without_spaces : List ℕ → List ℕ
without_spaces [] = []
without_spaces (b ∷ bs) = if b == 32 then without_spaces bs else b ∷ bs

-- a value without the spaces in front and the padding at its end, as titles and the values of a
-- data set are read
abbrev pub trimmed : List ℕ → List ℕ
trimmed bytes = unpadded (without_spaces bytes)
