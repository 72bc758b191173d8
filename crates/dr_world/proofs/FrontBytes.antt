-- How many bytes on a wire belong to the PDU at the front.
use Rattle.std.proofs.Common.{◌≡◌, ◌≢◌, ◌⊎◌, ℕ, suc, ◌+◌, ◌-◌, ◌<◌, ◌≤◌, List, [], ◌∷◌, ◌++◌, append_assoc, length, get_or, refl, sym, ap, ◌∙◌, arith, inl, inr}
use Rattle.std.specs.Int.{w32, to_be_bytes, from_be_bytes}
use Rattle.std.proofs.lemmas.Nat.{from_be_bytes-to_be_bytes_4}
use Rattle.std.proofs.lemmas.List.{length-append, append-nil}
use Rattle.dr_pdu.specs.declared.pdu.Pdu.{Pdu}
use Rattle.dr_pdu.specs.declared.pdu.Pdu.TheVariants as pdu
use Rattle.dr_pdu.specs.Written.{Fits, MeetsLimit, written}
use Rattle.dr_pdu.proofs.WrittenLemmas.{written_spells}
use Rattle.dr_world_tie.specs.Channels.{LiveTerminal}
use Rattle.dr_world_tie.specs.Moves.{IsLeft}
use Rattle.dr_world.specs.Moved.{TellsLength, IsLeftOf, IsMovable, IsUpTo, told_length}

-- the limit 0 is met by each
free : (p : Pdu) → MeetsLimit 0 p
free (pdu.AssociateRq rq) = tt
free (pdu.AssociateAc ac) = tt
free (pdu.AssociateRj rj) = tt
free (pdu.Transfer pdvs) = inl refl
free pdu.ReleaseRq = tt
free pdu.ReleaseRp = tt
free (pdu.Abort a) = tt

-- the four bytes of a text's length field
abbrev field : List ℕ → List ℕ
field text = get_or text 2 0 ∷ get_or text 3 0 ∷ get_or text 4 0 ∷ get_or text 5 0 ∷ []

tells_length : (text : List ℕ) (n : ℕ) → n ≡ from_be_bytes w32 (field text) + 6 → TellsLength text n
tells_length text n is p more e fits =
    let s = written_spells 0 p fits (free p) in
    let whole : text ≡ (s.0 ∷ s.2.0.0 ∷ (to_be_bytes w32 (length s.1) ++ (s.1 ++ []))) ++ more = e ∙ ap (λ (t : List ℕ). t ++ more) s.2.0.2 in
    let here : field text ≡ to_be_bytes w32 (length s.1) = ap field whole in
    let number : from_be_bytes w32 (field text) ≡ length s.1 = ap (from_be_bytes w32) here ∙ from_be_bytes-to_be_bytes_4 (length s.1) s.2.0.1 in
    let long : length (written p) ≡ suc (suc (suc (suc (suc (suc (length (s.1 ++ []))))))) = ap (λ (t : List ℕ). length t) s.2.0.2 in
    let same : length (s.1 ++ []) ≡ length s.1 = ap (λ (t : List ℕ). length t) (append-nil s.1) in
    omega (arith, is, number, long, same)

pub length_read : (text : List ℕ) (a b c d n : ℕ) → a ≡ get_or text 2 0 → b ≡ get_or text 3 0 → c ≡ get_or text 4 0 → d ≡ get_or text 5 0 → n ≡ from_be_bytes w32 (a ∷ b ∷ c ∷ d ∷ []) → TellsLength text (n + 6)
length_read text a b c d n is_a is_b is_c is_d is =
    let bytes : a ∷ b ∷ c ∷ d ∷ [] ≡ field text = (λ i. is_a i ∷ is_b i ∷ is_c i ∷ is_d i ∷ []) in
    tells_length text (n + 6) (ap (λ (x : ℕ). x + 6) (is ∙ ap (from_be_bytes w32) bytes))

pub length_told : (text : List ℕ) (a b c d n : ℕ) → a ≡ get_or text 2 0 → b ≡ get_or text 3 0 → c ≡ get_or text 4 0 → d ≡ get_or text 5 0 → n ≡ from_be_bytes w32 (a ∷ b ∷ c ∷ d ∷ []) → n + 6 ≡ told_length text
length_told text a b c d n is_a is_b is_c is_d is =
    let bytes : a ∷ b ∷ c ∷ d ∷ [] ≡ field text = (λ i. is_a i ∷ is_b i ∷ is_c i ∷ is_d i ∷ []) in
    ap (λ (x : ℕ). x + 6) (is ∙ ap (from_be_bytes w32) bytes)

-- where the last byte is that is told of
module _ (told kept wire size : ℕ) (is : size ≡ told) where
  pub told_kept : size ≤ kept → IsUpTo told kept wire wire
  told_kept less = inr (inl (omega (arith, is, less)), refl)

  pub told_short : kept < size → wire < size - kept → IsUpTo told kept wire wire
  told_short more short = inr (inr (omega (arith, is, more, short)), refl)

  pub told_there : kept < size → size - kept ≤ wire → IsUpTo told kept wire (size - kept)
  told_there more there = inl (omega (arith, is, more), omega (arith, is, more, there), omega (arith, is, more))

some_length : (left : List ℕ) → left ≢ [] → 0 < length left
some_length [] some = absurd (some refl)
some_length (x ∷ xs) some = omega arith

module _ (kept wire : List ℕ) (size : ℕ) (tells : TellsLength (kept ++ wire) size) where
  sized : (p : Pdu) (left more : List ℕ) → kept ++ left ≡ written p → wire ≡ left ++ more → Fits p → size ≡ length kept + length left
  sized p left more joined wire_is fits =
      let n = tells p more (ap (λ (t : List ℕ). kept ++ t) wire_is ∙ (sym (append_assoc kept left more) ∙ ap (λ (t : List ℕ). t ++ more) joined)) fits in
      n ∙ (ap (λ (t : List ℕ). length t) (sym joined) ∙ length-append kept left)

  -- the reader keeps that much already
  pub left_kept : size ≤ length kept → IsLeftOf kept wire (length wire)
  left_kept less = (
    omega arith,
    some_length wire,
    λ p left more joined some wire_is fits. absurd (let h = sized p left more joined wire_is fits in let s = some_length left some in omega (arith, h, s, less)),
  )

  -- more is to come than there is
  pub left_short : length kept < size → length wire < size - length kept → IsLeftOf kept wire (length wire)
  left_short more short = (
    omega arith,
    some_length wire,
    λ p left rest joined some wire_is fits.
        absurd (let h = sized p left rest joined wire_is fits in let w = ap (λ (t : List ℕ). length t) wire_is ∙ length-append left rest in omega (arith, h, w, short)),
  )

  pub left_there : length kept < size → size - length kept ≤ length wire → IsLeftOf kept wire (size - length kept)
  left_there more there = (there, (λ some. omega (arith, more)), λ p left rest joined some wire_is fits. (let h = sized p left rest joined wire_is fits in omega (arith, h)))

module _ (kept wire : List ℕ) (left : ℕ) (is : IsLeftOf kept wire left) where
  length_left : (t : LiveTerminal) → t.ear.kept ≡ kept → (front : Pdu) (rest : List ℕ) → IsLeft t wire front rest → left ≡ length rest
  length_left t same front rest h = is.2 front rest h.rest (ap (λ (k : List ℕ). k ++ rest) (sym same) ∙ h.joined) h.some h.wire_is h.first.2

  pub moves_some : (n : ℕ) → n < left → IsMovable kept wire n n
  moves_some n less = (
    omega (arith, is.0, less),
    (λ some positive. positive),
    λ t same. (omega arith, λ front rest h. (let e = length_left t same front rest h in (omega (arith, e, less), inl refl))),
  )

  pub moves_all : (n : ℕ) → left ≤ n → IsMovable kept wire n left
  moves_all n more = (
    is.0,
    (λ some positive. is.1 some),
    λ t same. (more, λ front rest h. (let e = length_left t same front rest h in (omega (arith, e), inr e))),
  )
