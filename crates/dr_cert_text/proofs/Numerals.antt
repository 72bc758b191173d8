-- Digests read again as they were written.
use Rattle.std.proofs.Common.{◌≡◌, ◌≢◌, ℕ, zero, suc, ◌<◌, ◌≤◌, ◌*◌, Bool, true, false, not, eqb, List, [], ◌∷◌, length, decimal, Result, Ok, Err, refl, sym, ap, ◌∙◌, arith}
use Rattle.std.specs.Prelude.{All}
use mathlib.Core.Bool.{true≢false}
use Rattle.std.specs.Cmp.Lexicographic.{pointwise}
use Rattle.std.proofs.lemmas.Slice.Eq.{bytes_eq-Decides}
use Rattle.std.proofs.lemmas.List.Elements.{All-head, All-tail, All-from_get_or, All-weaker}
use Rattle.std.specs.Str.Parse.{ParsesUnsigned}
use Rattle.std.proofs.lemmas.Fmt.{parse-decimal}
use Rattle.hex.specs.Hex.{encode_lower, decode_sized, is_hex_digit, IsBytes}
use Rattle.hex.proofs.HexLemmas.{decode_sized-encode_lower, decode_sized-ok, decode_sized-twice, decode_of-ok, decode_of-encode_lower}
use Rattle.hex.specs.declared.error.FromHexError.{FromHexError}
use Rattle.dr_cert_text.specs.Printable.{IsDigest}
use Rattle.dr_cert_text.specs.Cuts.{Lacks}

all_bytes : (bytes : List ℕ) → All (λ b. b < 256) bytes → IsBytes bytes
all_bytes [] h i = omega arith
all_bytes (b ∷ bytes) h zero = All-head (λ x. x < 256) b bytes h
all_bytes (b ∷ bytes) h (suc i) = all_bytes bytes (All-tail (λ x. x < 256) b bytes h) i

pub decoded : (digest field : List ℕ) → IsDigest digest → encode_lower digest ≡ field → decode_sized field 32 ≡ Ok digest
decoded digest field is e = rw (← e) (decode_sized-encode_lower digest 32 is.0 (all_bytes digest is.1))

pub same_digest : (a b : List ℕ) (r : Result (List ℕ) FromHexError) → r ≡ Ok a → r ≡ Ok b → a ≡ b
same_digest a b r ea eb = cc

-- what is decoded is a digest
pub is_digest : (digest field : List ℕ) (r : Result (List ℕ) FromHexError) → r ≡ Ok digest → r ≡ decode_sized field 32 → IsDigest digest
is_digest digest field r is found =
    let sized : decode_sized field 32 ≡ Ok digest = sym found ∙ is in
    let long : length field ≡ 2 * 32 = decode_sized-ok field 32 digest sized in
    let ok = decode_of-ok field digest (sym (decode_sized-twice field 32 long) ∙ sized) in
    let twice : length field ≡ 2 * length digest = ok.2 in
    (omega arith, All-from_get_or (λ b. b < 256) digest 0 (λ i lt. ok.3 i))

-- hex digits are no LF
pub hex_plain : (digest : List ℕ) → IsDigest digest → Lacks 10 (encode_lower digest)
hex_plain digest is =
    let digits = (decode_of-ok (encode_lower digest) digest (decode_of-encode_lower digest (all_bytes digest is.1))).1 in
    All-weaker (λ b. is_hex_digit b ≡ true) (λ b. b ≢ 10) (λ b passes e. let no : is_hex_digit 10 ≡ true = rw e at passes in true≢false (sym no)) (encode_lower digest) digits
