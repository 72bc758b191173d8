-- A seal in the tables.
use Rattle.std.proofs.Common.{◌≡◌, ◌∙◌, ◌⊎◌, inl, inr, ℕ, ◌+◌, ◌^◌, ◌<◌, List, [], ◌∷◌, ◌++◌, length, take, drop, refl, sym, ap, subst, arith}
use Rattle.std.proofs.Common.{length-append, take_at, drop_at}
use Rattle.std.proofs.lemmas.List.{append_assoc}
use Rattle.std.proofs.lemmas.Nat.{from_le_bytes-to_le_bytes_8}
use Rattle.std.specs.Int.{w64, from_le_bytes, to_le_bytes}
use Rattle.dr_store_sealed.specs.declared.seal.Seal.{Seal}
use Rattle.dr_store_sealed.specs.InTables.{IsOfCode, IsSealText, bytes_of_seal, number_at, seal_said}
use Rattle.dr_store_sealed.specs.Laws.{SealsAreReadBack}

-- four texts behind one another
pub four_pushed : (none one two three four a b c d : List ℕ) → none ≡ [] → one ≡ none ++ a → two ≡ one ++ b → three ≡ two ++ c → four ≡ three ++ d → four ≡ a ++ b ++ c ++ d
four_pushed none one two three four a b c d first second third fourth last =
    last ∙ ap (λ x. x ++ d) (fourth ∙ ap (λ x. x ++ c) (third ∙ ap (λ x. x ++ b) (second ∙ ap (λ x. x ++ a) first)))

-- a text that isn't nothing says what its bytes do
pub said_in : (text : List ℕ) → (text ≡ [] → ⊥) → seal_said text ≡ record { count = number_at 0 text; chain = take 32 (drop 8 text); number = number_at 40 text; offset = number_at 48 text }
said_in [] some = absurd (some refl)
said_in (byte ∷ more) some = refl

module _ (seal : Seal) (is : IsOfCode seal) where
  abbrev count : List ℕ
  count = to_le_bytes w64 seal.count

  abbrev number : List ℕ
  number = to_le_bytes w64 seal.number

  abbrev offset : List ℕ
  offset = to_le_bytes w64 seal.offset

  whole : length (bytes_of_seal seal) ≡ 56
  whole =
      omega (arith, length-append (count ++ seal.chain ++ number) offset, length-append (count ++ seal.chain) number, length-append count seal.chain, is.chain)

  some : bytes_of_seal seal ≡ [] → ⊥
  some none = omega (arith, whole, ap length none)

  back : (n : ℕ) (front rest : List ℕ) (at : ℕ) → length front ≡ at → n < 2 ^ 64 → bytes_of_seal seal ≡ front ++ (to_le_bytes w64 n ++ rest) → number_at at (bytes_of_seal seal) ≡ n
  back n front rest at long fits e =
      ap (λ (x : List ℕ). from_le_bytes w64 (take 8 (drop at x))) e
      ∙ ap (λ (x : List ℕ). from_le_bytes w64 (take 8 x)) (drop_at front (to_le_bytes w64 n ++ rest) at long)
      ∙ ap (λ (x : List ℕ). from_le_bytes w64 x) (take_at (to_le_bytes w64 n) rest 8 refl)
      ∙ from_le_bytes-to_le_bytes_8 n fits

  chain_back : take 32 (drop 8 (bytes_of_seal seal)) ≡ seal.chain
  chain_back =
      ap (λ (x : List ℕ). take 32 (drop 8 x)) (append_assoc (count ++ seal.chain) number offset ∙ append_assoc count seal.chain (number ++ offset))
      ∙ ap (take 32) (drop_at count (seal.chain ++ (number ++ offset)) 8 refl)
      ∙ take_at seal.chain (number ++ offset) 32 is.chain

  count_back : number_at 0 (bytes_of_seal seal) ≡ seal.count
  count_back = back seal.count [] (seal.chain ++ (number ++ offset)) 0 refl is.count (append_assoc (count ++ seal.chain) number offset ∙ append_assoc count seal.chain (number ++ offset))

  number_back : number_at 40 (bytes_of_seal seal) ≡ seal.number
  number_back = back seal.number (count ++ seal.chain) offset 40 (omega (arith, length-append count seal.chain, is.chain)) is.number (append_assoc (count ++ seal.chain) number offset)

  offset_back : number_at 48 (bytes_of_seal seal) ≡ seal.offset
  offset_back =
      back seal.offset (count ++ seal.chain ++ number) [] 48 (omega (arith, length-append (count ++ seal.chain) number, length-append count seal.chain, is.chain)) is.offset
      (ap (λ (x : List ℕ). (count ++ seal.chain ++ number) ++ x) refl)

  said : seal_said (bytes_of_seal seal) ≡ seal
  said = said_in (bytes_of_seal seal) some ∙ (λ i. record { count = count_back i; chain = chain_back i; number = number_back i; offset = offset_back i })

  pub read_back : IsSealText (bytes_of_seal seal) × (seal_said (bytes_of_seal seal) ≡ seal)
  read_back = (inr whole, said)

pub seals_are_read_back : SealsAreReadBack
seals_are_read_back seal is = read_back seal is
