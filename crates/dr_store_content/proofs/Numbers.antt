-- 32 bytes are those of one number.
use Rattle.std.proofs.Common.{◌≡◌, ◌∙◌, ℕ, ◌+◌, ◌*◌, ◌<◌, ◌≤◌, ◌-◌, ◌^◌, ◌⊎◌, inl, inr, List, [], ◌∷◌, length, take, drop, get_or, refl, sym, ap, arith}
use Rattle.std.proofs.Common.{length-take, length-drop, get_or-take, get_or-drop, ext_get_or}
use Rattle.std.proofs.lemmas.Bool.{cases_lt}
use Rattle.std.proofs.lemmas.Nat.{le_bytes_8}
use Rattle.std.proofs.lemmas.List.{get_or_past}
use Rattle.std.proofs.lemmas.List.Elements.{All-get_or}
use Rattle.std.specs.Prelude.{All}
use Rattle.std.specs.Int.{w64, from_le_bytes}
use Rattle.dr_store_content.specs.Contents.{number_of}

-- eight bytes from there on
abbrev eight : List ℕ → ℕ → List ℕ
eight bytes at = take 8 (drop at bytes)

-- as a number
abbrev part_of : List ℕ → ℕ → ℕ
part_of bytes at = from_le_bytes w64 (eight bytes at)

abbrev AreSmall : List ℕ → Type 0
AreSmall bytes = (i : ℕ) → get_or bytes i 0 < 256

long : (bytes : List ℕ) (at : ℕ) → length bytes ≡ 32 → at ≤ 24 → length (eight bytes at) ≡ 8
long bytes at whole low = omega (arith, length-take 8 (drop at bytes), length-drop at bytes, whole, low)

at_place : (bytes : List ℕ) (at i : ℕ) → i < 8 → get_or (eight bytes at) i 0 ≡ get_or bytes (at + i) 0
at_place bytes at i low = get_or-take 8 (drop at bytes) i 0 low ∙ get_or-drop at bytes i 0

all_small : (bytes : List ℕ) → All (λ byte. byte < 256) bytes → AreSmall bytes
all_small bytes each i = by_place (cases_lt i (length bytes))
  where
    by_place : (i < length bytes) ⊎ (length bytes ≤ i) → get_or bytes i 0 < 256
    by_place (inl low) = All-get_or (λ byte. byte < 256) bytes i 0 low each
    by_place (inr high) = omega (arith, get_or_past bytes i 0 high)

eight_small : (bytes : List ℕ) (at : ℕ) → AreSmall bytes → length bytes ≡ 32 → at ≤ 24 → AreSmall (eight bytes at)
eight_small bytes at each whole bound i = by_place (cases_lt i 8)
  where
    by_place : (i < 8) ⊎ (8 ≤ i) → get_or (eight bytes at) i 0 < 256
    by_place (inl low) = omega (arith, at_place bytes at i low, each (at + i))
    by_place (inr high) = omega (arith, get_or_past (eight bytes at) i 0 (omega (arith, long bytes at whole bound, high)))

-- eight bytes are a number of 64 bits
fits : (xs : List ℕ) → length xs ≡ 8 → AreSmall xs → from_le_bytes w64 xs < 2 ^ 64
fits [] l s = absurd (omega (arith, l))
fits (a ∷ []) l s = absurd (omega (arith, l))
fits (a ∷ b ∷ []) l s = absurd (omega (arith, l))
fits (a ∷ b ∷ c ∷ []) l s = absurd (omega (arith, l))
fits (a ∷ b ∷ c ∷ d ∷ []) l s = absurd (omega (arith, l))
fits (a ∷ b ∷ c ∷ d ∷ e ∷ []) l s = absurd (omega (arith, l))
fits (a ∷ b ∷ c ∷ d ∷ e ∷ f ∷ []) l s = absurd (omega (arith, l))
fits (a ∷ b ∷ c ∷ d ∷ e ∷ f ∷ g ∷ []) l s = absurd (omega (arith, l))
fits (a ∷ b ∷ c ∷ d ∷ e ∷ f ∷ g ∷ h ∷ []) l s = omega (arith, s 0, s 1, s 2, s 3, s 4, s 5, s 6, s 7)
fits (a ∷ b ∷ c ∷ d ∷ e ∷ f ∷ g ∷ h ∷ i ∷ xs) l s = absurd (omega (arith, l))

part_fits : (bytes : List ℕ) (at : ℕ) → length bytes ≡ 32 → AreSmall bytes → at ≤ 24 → part_of bytes at < 2 ^ 64
part_fits bytes at whole each low = fits (eight bytes at) (long bytes at whole low) (eight_small bytes at each whole low)

-- parts of one number are the same
record Parts (a b c d w x y z : ℕ) : Type 0 where
  first : a ≡ w
  second : b ≡ x
  third : c ≡ y
  fourth : d ≡ z

parts : (a b c d w x y z : ℕ)
    → a < 2 ^ 64 → b < 2 ^ 64 → c < 2 ^ 64 → d < 2 ^ 64 → w < 2 ^ 64 → x < 2 ^ 64 → y < 2 ^ 64 → z < 2 ^ 64
    → a + b * 2 ^ 64 + c * 2 ^ 128 + d * 2 ^ 192 ≡ w + x * 2 ^ 64 + y * 2 ^ 128 + z * 2 ^ 192
    → Parts a b c d w x y z
parts a b c d w x y z fa fb fc fd fw fx fy fz e = record {
  first = omega (arith, fa, fb, fc, fd, fw, fx, fy, fz, e);
  second = omega (arith, fa, fb, fc, fd, fw, fx, fy, fz, e);
  third = omega (arith, fa, fb, fc, fd, fw, fx, fy, fz, e);
  fourth = omega (arith, fa, fb, fc, fd, fw, fx, fy, fz, e);
}

same_eight : (bytes others : List ℕ) (at : ℕ) → length bytes ≡ 32 → length others ≡ 32 → AreSmall bytes → AreSmall others → at ≤ 24
    → part_of bytes at ≡ part_of others at → eight bytes at ≡ eight others at
same_eight bytes others at whole also each both low e =
    sym (le_bytes_8 (eight bytes at) (part_of others at) (long bytes at whole low) (eight_small bytes at each whole low) (sym e))
    ∙ le_bytes_8 (eight others at) (part_of others at) (long others at also low) (eight_small others at both also low) refl

same_at : (bytes others : List ℕ) (at i : ℕ) → eight bytes at ≡ eight others at → at ≤ i → i < at + 8 → get_or bytes i 0 ≡ get_or others i 0
same_at bytes others at i e low high =
    let j = i - at in
    let is : at + j ≡ i = omega (arith, low) in
    let near : j < 8 = omega (arith, low, high) in
    ap (λ (k : ℕ). get_or bytes k 0) (sym is) ∙ sym (at_place bytes at j near) ∙ ap (λ (xs : List ℕ). get_or xs j 0) e ∙ at_place others at j near ∙ ap (λ (k : ℕ). get_or others k 0) is

pub one_number : (bytes others : List ℕ) → length bytes ≡ 32 → length others ≡ 32
    → All (λ byte. byte < 256) bytes → All (λ byte. byte < 256) others
    → number_of bytes ≡ number_of others → bytes ≡ others
one_number bytes others whole also each both e = ext_get_or 0 bytes others (whole ∙ sym also) (λ i low. by_part i (omega (arith, low, whole)))
  where
    s : AreSmall bytes
    s = all_small bytes each

    t : AreSmall others
    t = all_small others both

    p : Parts (part_of bytes 0) (part_of bytes 8) (part_of bytes 16) (part_of bytes 24) (part_of others 0) (part_of others 8) (part_of others 16) (part_of others 24)
    p = parts (part_of bytes 0) (part_of bytes 8) (part_of bytes 16) (part_of bytes 24) (part_of others 0) (part_of others 8) (part_of others 16) (part_of others 24)
        (part_fits bytes 0 whole s (omega arith)) (part_fits bytes 8 whole s (omega arith)) (part_fits bytes 16 whole s (omega arith)) (part_fits bytes 24 whole s (omega arith))
        (part_fits others 0 also t (omega arith)) (part_fits others 8 also t (omega arith)) (part_fits others 16 also t (omega arith)) (part_fits others 24 also t (omega arith)) e

    third : (i : ℕ) → (i < 24) ⊎ (24 ≤ i) → 16 ≤ i → i < 32 → get_or bytes i 0 ≡ get_or others i 0
    third i (inl low) from bound = same_at bytes others 16 i (same_eight bytes others 16 whole also s t (omega arith) p.third) from (omega (arith, low))
    third i (inr high) from bound = same_at bytes others 24 i (same_eight bytes others 24 whole also s t (omega arith) p.fourth) high (omega (arith, bound))

    second : (i : ℕ) → (i < 16) ⊎ (16 ≤ i) → 8 ≤ i → i < 32 → get_or bytes i 0 ≡ get_or others i 0
    second i (inl low) from bound = same_at bytes others 8 i (same_eight bytes others 8 whole also s t (omega arith) p.second) from (omega (arith, low))
    second i (inr high) from bound = third i (cases_lt i 24) high bound

    by_first : (i : ℕ) → (i < 8) ⊎ (8 ≤ i) → i < 32 → get_or bytes i 0 ≡ get_or others i 0
    by_first i (inl low) bound = same_at bytes others 0 i (same_eight bytes others 0 whole also s t (omega arith) p.first) (omega arith) (omega (arith, low))
    by_first i (inr high) bound = second i (cases_lt i 16) high bound

    by_part : (i : ℕ) → i < 32 → get_or bytes i 0 ≡ get_or others i 0
    by_part i bound = by_first i (cases_lt i 8) bound
