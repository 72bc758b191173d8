-- Digests in hex, cut off the front of a text.
use Rattle.std.proofs.Common.{◌≡◌, ◌∙◌, ◌<◌, ◌≤◌, ◌+◌, ◌*◌, ◌/◌, ◌%◌, ℕ, zero, suc, List, [], ◌∷◌, ◌++◌, Result, Ok, Err, Bor, refl, sym, ap, subst, arith, append_assoc, drop, get_or, length, flat_map, codes, slice_index}
use Rattle.std.proofs.lemmas.List.{length-append}
use Rattle.hex.specs.Hex.{IsBytes, decode_sized, encode_lower, encode_with, lower_digits}
use Rattle.hex.specs.declared.error.FromHexError.{FromHexError}
use Rattle.hex.proofs.HexLemmas.{decode_of-ok, decode_sized-encode_lower, decode_sized-ok, decode_sized-twice, length-encode_with}
use Rattle.dr_base_quoted.specs.Quoting.{quoted, quoted_byte}
use Rattle.dr_ledger_text.proofs.Pieces.{behind_same}
use Rattle.dr_ledger_read.specs.Behind.{digest_then}
use Rattle.dr_ledger_read.specs.Cutting.{HasNone, IsCut, Same}
use Rattle.dr_ledger_read.specs.Held.{IsHeldDigest}
use Rattle.dr_ledger_read.specs.Places.{IsDigest}
use Rattle.dr_ledger_read.proofs.Between.{quoted_then}

-- ---- digits and their bytes

pub decoded : (digest field : List ℕ) → IsHeldDigest digest → encode_lower digest ≡ field → decode_sized field 32 ≡ Ok digest
decoded digest field is e = rw (← e) (decode_sized-encode_lower digest 32 is.long is.bytes)

pub same_digest : (a b : List ℕ) (r : Result (List ℕ) FromHexError) → r ≡ Ok a → r ≡ Ok b → a ≡ b
same_digest a b r ea eb = cc

pub is_digest : (digest field : List ℕ) (r : Result (List ℕ) FromHexError) → r ≡ Ok digest → r ≡ decode_sized field 32 → IsHeldDigest digest
is_digest digest field r is found =
    let sized : decode_sized field 32 ≡ Ok digest = sym found ∙ is in
    let long : length field ≡ 2 * 32 = decode_sized-ok field 32 digest sized in
    let ok = decode_of-ok field digest (sym (decode_sized-twice field 32 long) ∙ sized) in
    let twice : length field ≡ 2 * length digest = ok.2 in
    record { bytes = ok.3; long = omega arith }

one_digest : (a b : List ℕ) → IsHeldDigest a → IsHeldDigest b → encode_lower a ≡ encode_lower b → a ≡ b
one_digest a b p q e = same_digest a b (decode_sized (encode_lower b) 32) (decoded a (encode_lower b) p e) (decoded b (encode_lower b) q refl)

-- ---- digits between quotes

lower_plain : (n : ℕ) → n < 16 → quoted_byte (slice_index lower_digits n) ≡ slice_index lower_digits n ∷ []
lower_plain zero lt = refl
lower_plain (suc zero) lt = refl
lower_plain (suc (suc zero)) lt = refl
lower_plain (suc (suc (suc zero))) lt = refl
lower_plain (suc (suc (suc (suc zero)))) lt = refl
lower_plain (suc (suc (suc (suc (suc zero))))) lt = refl
lower_plain (suc (suc (suc (suc (suc (suc zero)))))) lt = refl
lower_plain (suc (suc (suc (suc (suc (suc (suc zero))))))) lt = refl
lower_plain (suc (suc (suc (suc (suc (suc (suc (suc zero)))))))) lt = refl
lower_plain (suc (suc (suc (suc (suc (suc (suc (suc (suc zero))))))))) lt = refl
lower_plain (suc (suc (suc (suc (suc (suc (suc (suc (suc (suc zero)))))))))) lt = refl
lower_plain (suc (suc (suc (suc (suc (suc (suc (suc (suc (suc (suc zero))))))))))) lt = refl
lower_plain (suc (suc (suc (suc (suc (suc (suc (suc (suc (suc (suc (suc zero)))))))))))) lt = refl
lower_plain (suc (suc (suc (suc (suc (suc (suc (suc (suc (suc (suc (suc (suc zero))))))))))))) lt = refl
lower_plain (suc (suc (suc (suc (suc (suc (suc (suc (suc (suc (suc (suc (suc (suc zero)))))))))))))) lt = refl
lower_plain (suc (suc (suc (suc (suc (suc (suc (suc (suc (suc (suc (suc (suc (suc (suc zero))))))))))))))) lt = refl
lower_plain (suc (suc (suc (suc (suc (suc (suc (suc (suc (suc (suc (suc (suc (suc (suc (suc n)))))))))))))))) lt = absurd (omega (arith, lt))

-- digits stand between quotes as they are
pub quoted_hex : (t : List ℕ) → ((n : ℕ) → n < 16 → quoted_byte (slice_index t n) ≡ slice_index t n ∷ []) → (xs : List ℕ) → IsBytes xs → flat_map quoted_byte (encode_with t xs) ≡ encode_with t xs
unfolding encode_with
quoted_hex t plain [] bytes = refl
quoted_hex t plain (x ∷ xs) bytes =
    let high = slice_index t (x / 16) in
    let low = slice_index t (x % 16) in
    let small : x < 256 = bytes zero in
    ap (λ (l : List ℕ). l ++ (quoted_byte low ++ flat_map quoted_byte (encode_with t xs))) (plain (x / 16) (omega (arith, small)))
    ∙ ap (λ (l : List ℕ). high ∷ (l ++ flat_map quoted_byte (encode_with t xs))) (plain (x % 16) (omega arith))
    ∙ ap (λ (l : List ℕ). high ∷ low ∷ l) (quoted_hex t plain xs (λ i. bytes (suc i)))

abbrev opened : List ℕ
opened = codes ",\"sha256\":\""

pub digest_then_is : (digest rest : List ℕ) → IsBytes digest → digest_then digest rest ≡ opened ++ (encode_lower digest ++ 34 ∷ rest)
digest_then_is digest rest bytes =
    ap (λ (l : List ℕ). codes ",\"sha256\":" ++ l) (quoted_then (encode_lower digest) rest ∙ ap (λ (l : List ℕ). 34 ∷ (l ++ 34 ∷ rest)) (quoted_hex lower_digits lower_plain digest bytes))

-- ---- a digest at the front

split_same : (a b x y : List ℕ) → length a ≡ length b → a ++ x ≡ b ++ y → (a ≡ b) × (x ≡ y)
split_same [] [] x y l e = (refl, e)
split_same [] (d ∷ ds) x y l e = absurd (omega (arith, l))
split_same (c ∷ cs) [] x y l e = absurd (omega (arith, l))
split_same (c ∷ cs) (d ∷ ds) x y l e =
    let on = split_same cs ds x y (omega (arith, l)) (ap (λ (t : List ℕ). drop 1 t) e) in
    (ap (λ (b : ℕ). b ∷ cs) (ap (λ (t : List ℕ). get_or t 0 0) e) ∙ ap (λ (t : List ℕ). d ∷ t) on.0, on.1)

module _ (text behind : List ℕ) (opens : text ≡ opened ++ behind) where
  behind_is : (digest rest : List ℕ) → IsDigest text digest rest → behind ≡ encode_lower digest ++ 34 ∷ rest
  behind_is digest rest is = behind_same opened behind (encode_lower digest ++ 34 ∷ rest) (sym opens ∙ is.1 ∙ digest_then_is digest rest is.0.bytes)

  long_is : (digest : List ℕ) → IsHeldDigest digest → length (encode_lower digest) ≡ 64
  long_is digest held = let f = length-encode_with lower_digits digest in omega (arith, f, held.long)

  pub too_short : length behind < 64 → HasNone (IsDigest text)
  too_short short digest rest is =
      let f : length behind ≡ length (encode_lower digest) + length (34 ∷ rest) = ap (λ (l : List ℕ). length l) (behind_is digest rest is) ∙ length-append (encode_lower digest) (34 ∷ rest) in
      omega (arith, f, short, long_is digest is.0)

  module _ (digits later : List ℕ) (cut : (behind ≡ digits ++ later) × (length digits ≡ 64)) where
    halves : (digest rest : List ℕ) → IsDigest text digest rest → (digits ≡ encode_lower digest) × (later ≡ 34 ∷ rest)
    halves digest rest is = split_same digits (encode_lower digest) later (34 ∷ rest) (omega (arith, cut.1, long_is digest is.0)) (sym cut.0 ∙ behind_is digest rest is)

    pub unended : ((rest : List ℕ) → later ≡ 34 ∷ rest → ⊥) → HasNone (IsDigest text)
    unended none digest rest is = none rest (halves digest rest is).1

    pub no_digest : ((digest : List ℕ) → IsHeldDigest digest → encode_lower digest ≡ digits → ⊥) → HasNone (IsDigest text)
    no_digest none digest rest is = none digest is.0 (sym (halves digest rest is).0)

    pub digest_cut : (digest : List ℕ) (rest : Bor (List ℕ)) → later ≡ 34 ∷ rest.now → IsHeldDigest digest × (encode_lower digest ≡ digits) → IsCut (List ℕ) (List ℕ) Same (IsDigest text) (digest, rest)
    digest_cut digest rest closes found = record {
      value = digest;
      is = (
        found.0,
        opens ∙ ap (λ (l : List ℕ). opened ++ l) (cut.0 ∙ ap (λ (l : List ℕ). digits ++ l) closes ∙ ap (λ (l : List ℕ). l ++ 34 ∷ rest.now) (sym found.1))
            ∙ sym (digest_then_is digest rest.now found.0.bytes),
      );
      each = λ other last is. (
        one_digest digest other found.0 is.0 (found.1 ∙ (halves other last is).0),
        ap (λ (l : List ℕ). drop 1 l) (sym (halves other last is).1 ∙ closes),
      );
    }
