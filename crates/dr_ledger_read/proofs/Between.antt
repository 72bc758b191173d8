-- Texts in quotes, cut off the front of a text.
use Rattle.std.proofs.Common.{◌≡◌, ◌∙◌, ◌<◌, ◌+◌, ℕ, List, [], ◌∷◌, ◌++◌, Option, None, Some, Bor, refl, sym, ap, subst, arith, append_assoc, drop, length, flat_map}
use Rattle.std.proofs.lemmas.List.{append-nil}
use Rattle.std.proofs.lemmas.List.Concat.{flat_map-append}
use Rattle.dr_base_quoted.specs.Quoting.{quoted, quoted_byte}
use Rattle.dr_ledger_text.proofs.Pieces.{behind_same}
use Rattle.dr_ledger_read.specs.Cutting.{Cuts, HasNone, IsCut, Same}
use Rattle.dr_ledger_read.specs.Pieces.{AreBytes, Holds, IsQuoted, IsQuotedByte, IsWord}
use Rattle.dr_ledger_read.proofs.Bytes.{by_form, stopped}

abbrev between : List ℕ → List ℕ
between t = flat_map quoted_byte t

-- a value that was found itself is that of the piece
pub found_is : (X : Type 0) (Is : X → List ℕ → Type 0) (v : X) (rest : Bor (List ℕ)) → IsCut X X Same Is (v, rest) → Is v rest.now
found_is X Is v rest cut = subst (λ (x : X). Is x rest.now) (sym (cut.each cut.value rest.now cut.is).0) cut.is

pub quoted_then : (t x : List ℕ) → quoted t ++ x ≡ 34 ∷ (between t ++ 34 ∷ x)
quoted_then t x = append_assoc (34 ∷ between t) (34 ∷ []) x

-- one byte more was read
pub more_read : (place t rest later : List ℕ) (b : ℕ) → place ≡ between t ++ rest → rest ≡ quoted_byte b ++ later → place ≡ between (t ++ b ∷ []) ++ later
more_read place t rest later b e f =
    e ∙ ap (λ (l : List ℕ). between t ++ l) f ∙ sym (append_assoc (between t) (quoted_byte b) later)
    ∙ ap (λ (l : List ℕ). l ++ later) (sym (flat_map-append quoted_byte t (b ∷ []) ∙ ap (λ (l : List ℕ). between t ++ l) (append-nil (quoted_byte b))))

pub shorter : (rest later : List ℕ) (b : ℕ) → rest ≡ quoted_byte b ++ later → length later < length rest
shorter rest later b e =
    let f : length rest ≡ length (quoted_byte b ++ later) = ap (λ (l : List ℕ). length l) e in
    by_form (length later < length rest) b
    (λ p is. let g = ap (λ (l : List ℕ). length (l ++ later)) is in omega (arith, f, g))
    (λ is. let g = ap (λ (d : ℕ). length (quoted_byte d ++ later)) is in omega (arith, f, g))
    (λ is. let g = ap (λ (d : ℕ). length (quoted_byte d ++ later)) is in omega (arith, f, g))
    (λ is. let g = ap (λ (d : ℕ). length (quoted_byte d ++ later)) is in omega (arith, f, g))
    (λ p is. let g = ap (λ (l : List ℕ). length (l ++ later)) is in omega (arith, f, g))

module _ (text : List ℕ) (at : Bor (List ℕ)) (opens : text ≡ 34 ∷ at.now) where
  inside : (v rest : List ℕ) → IsQuoted text v rest → at.now ≡ between v ++ 34 ∷ rest
  inside v rest is = ap (λ (l : List ℕ). drop 1 l) (sym opens ∙ is.1 ∙ quoted_then v rest)

  module _ (t r : List ℕ) (bytes : AreBytes t) (read : at.now ≡ between t ++ r) (none : HasNone (IsQuotedByte r)) where
    ends : (v rest : List ℕ) → IsQuoted text v rest → r ≡ 34 ∷ rest
    ends v rest is = (stopped t v r rest none is.0 (sym (inside v rest is) ∙ read)).1

    pub unended : ((rest : List ℕ) → r ≡ 34 ∷ rest → ⊥) → HasNone (IsQuoted text)
    unended never v rest is = never rest (ends v rest is)

    pub quoted_cut : (behind : Bor (List ℕ)) → r ≡ 34 ∷ behind.now → IsCut (Bor (List ℕ)) (List ℕ) (λ (p : Bor (List ℕ)). Holds p.now) (IsQuoted text) (at, behind)
    quoted_cut behind closes = record {
      value = t;
      is = (bytes, opens ∙ ap (λ (l : List ℕ). 34 ∷ l) (read ∙ ap (λ (l : List ℕ). between t ++ l) closes) ∙ sym (quoted_then t behind.now));
      each = λ v rest is. ((rest, is.0, inside v rest is), ap (λ (l : List ℕ). drop 1 l) (sym (ends v rest is) ∙ closes));
    }

-- behind given bytes
pub word_cut : (start text behind : List ℕ) (r : Option (Bor (List ℕ) × Bor (List ℕ))) → text ≡ start ++ behind → Cuts (λ (p : Bor (List ℕ)). Holds p.now) (IsQuoted behind) r → Cuts (λ (p : Bor (List ℕ)). Holds p.now) (IsWord start text) r
word_cut start text behind None e none = λ v rest is. none v rest (is.0, behind_same start behind (quoted v ++ rest) (sym e ∙ is.1))
word_cut start text behind (Some found) e cut = record {
  value = cut.value;
  is = (cut.is.0, e ∙ ap (λ (l : List ℕ). start ++ l) cut.is.1);
  each = λ v rest is. cut.each v rest (is.0, behind_same start behind (quoted v ++ rest) (sym e ∙ is.1));
}

-- the text that stands at a place
pub held_there : (place t r : List ℕ) → place ≡ between t ++ r → HasNone (IsQuotedByte r) → (value : List ℕ) → Holds place value → t ≡ value
held_there place t r read none value (rest, bytes, is) = (stopped t value r rest none bytes (sym is ∙ read)).0
