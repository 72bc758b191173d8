-- A SHA-256 has 32 bytes.
use Rattle.std.proofs.Common.{◌≡◌, sym, subst, ℕ, zero, suc, ◌<◌, ◌/◌, ◌^◌, mod-lt, List, [], ◌∷◌, arith}
use Rattle.std.specs.Prelude.{All, slice_index}
use Rattle.std.specs.Int.{to_be_bytes, byte_at, w32}
use Rattle.std.proofs.lemmas.List.Elements.{All-nil, All-cons, All-append}
use Rattle.sha2.specs.Sha256.{sha256, digest_bytes, final_hash, initial_hash_256}
use Rattle.sha2.proofs.Facts256.{length-sha256}
use Rattle.dr_cert_text.specs.Printable.{IsDigest}

abbrev IsByte : ℕ → Type 0
IsByte byte = byte < 256

is_byte : (i n : ℕ) → IsByte (byte_at i n)
is_byte zero n = mod-lt n (omega arith)
is_byte (suc i) n = mod-lt (n / 256 ^ suc i) (omega arith)

word_bytes : (n : ℕ) → All IsByte (to_be_bytes w32 n)
word_bytes n =
    All-cons IsByte (byte_at 3 n) (byte_at 2 n ∷ byte_at 1 n ∷ byte_at 0 n ∷ []) (is_byte 3 n)
    (All-cons IsByte (byte_at 2 n) (byte_at 1 n ∷ byte_at 0 n ∷ []) (is_byte 2 n)
    (All-cons IsByte (byte_at 1 n) (byte_at 0 n ∷ []) (is_byte 1 n) (All-cons IsByte (byte_at 0 n) [] (is_byte 0 n) (All-nil IsByte))))

each_byte : (h : List ℕ) (n : ℕ) → All IsByte (digest_bytes h n)
unfolding digest_bytes
each_byte h zero = All-nil IsByte
each_byte h (suc n) = All-append IsByte (digest_bytes h n) (to_be_bytes w32 (slice_index h n)) (each_byte h n) (word_bytes (slice_index h n))

pub is_digest : (text : List ℕ) → IsDigest (sha256 text)
unfolding sha256
is_digest text = (length-sha256 text, each_byte (final_hash initial_hash_256 text) 8)

-- and so has the digest of a plan that was read of a text
pub of_core : (digest text : List ℕ) → digest ≡ sha256 text → IsDigest digest
of_core digest text is =
    let D : List ℕ → Type 0 = λ it. IsDigest it in
    subst D (sym is) (is_digest text)
