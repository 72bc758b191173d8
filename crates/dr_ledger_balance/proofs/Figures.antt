-- Figures of balances as text.
use Rattle.std.proofs.Common.{◌≡◌, ◌≢◌, ◌∙◌, ◌<◌, ◌^◌, ◌&&◌, Bool, true, nat_lt, ℕ, List, [], ◌∷◌, All, inl, inr, refl, sym, ap, subst, arith, get_or, length, codes, decimal, slice_index}
use Rattle.std.specs.Prelude.{IsAscii, replicate}
use Rattle.std.specs.Fmt.{digits}
use Rattle.std.specs.Str.Parse.{digits_value}
use Rattle.std.proofs.lemmas.Bool.{and_parts, ltb-true}
use Rattle.std.proofs.lemmas.Fmt.{decimal_is_IsNumeral}
use Rattle.std.proofs.lemmas.List.Elements.{All-cons, All-nil}
use Rattle.std.proofs.lemmas.Str.Ascii.{IsAscii-cons, IsAscii-nil}
use Rattle.hex.specs.Hex.{encode_lower, lower_digits}
use Rattle.hex.proofs.HexLemmas.{IsAscii-encode_with}
use Rattle.sha2.specs.Sha256.{sha256}
use Rattle.dr_base.specs.Numbers.{IsNumeral}
use Rattle.dr_base.specs.Texts.{Text}
use Rattle.dr_ledger_balance.specs.Balances.{FitsBalance}
use Rattle.dr_ledger_balance.specs.Fields.{FitsField, FitsNumber}
use Rattle.dr_ledger_balance.specs.Laws.{RefusalsCanCome, of_kept}
use Rattle.dr_ledger_balance.specs.Pieces.{AreAll, HasNone}
use Rattle.dr_ledger_balance.specs.Reading.{HasNoBody}
use Rattle.dr_ledger_balance.specs.Spelling.{FitsArrival, FitsItem, FitsRow, arrival_then, end_then, item_then, kept_then, row_then}
use Rattle.dr_ledger_balance.proofs.Bodies.{goes_on, no_end}
use Rattle.dr_ledger_balance.proofs.Cutting.{no_numeral}
use Rattle.dr_ledger_balance.proofs.Ending.{too_few}
use Rattle.dr_ledger_balance.proofs.Lines.{no_count, unended_kept}

abbrev first : Text → ℕ
first text = get_or text 0 0

-- ---- lines of no balance

module _ (body : Text) (item : first body ≢ 105) (arrival : first body ≢ 97) (row : first body ≢ 114) (kept : HasNone FitsField kept_then body) where
  a1 : AreAll FitsItem item_then body [] body
  a1 = record { fit = All-nil FitsItem; is = refl; ends = λ x rest is. item (ap first is.1) }

  a2 : AreAll FitsArrival arrival_then body [] body
  a2 = record { fit = All-nil FitsArrival; is = refl; ends = λ x rest is. arrival (ap first is.1) }

  a3 : AreAll FitsField kept_then body [] body
  a3 = record { fit = All-nil FitsField; is = refl; ends = kept }

  a4 : AreAll FitsRow row_then body [] body
  a4 = record { fit = All-nil FitsRow; is = refl; ends = λ x rest is. row (ap first is.1) }

  -- it has no list, and so only the last line
  unended : HasNone FitsNumber end_then body → HasNoBody body
  unended none = no_end body body body body body [] [] [] [] a1 a2 a3 a4 none

  more_behind : (count : ℕ) (rest : Text) → FitsNumber count × (body ≡ end_then count rest) → (rest ≡ [] → ⊥) → HasNoBody body
  more_behind count rest cut more = goes_on body body body body body [] [] [] [] a1 a2 a3 a4 count rest cut more

pub never_empty : HasNoBody []
never_empty =
    unended [] (λ e. omega (arith, e)) (λ e. omega (arith, e)) (λ e. omega (arith, e)) (λ x rest is. let f : 0 ≡ 107 = ap first is.1 in omega (arith, f))
    (λ n rest is. let f : 0 ≡ 108 = ap first is.1 in omega (arith, f))

not_kept : (body : Text) → first body ≡ 108 → HasNone FitsField kept_then body
not_kept body e uid rest is = let f : 108 ≡ 107 = sym e ∙ ap first is.1 in omega (arith, f)

-- no number begins with 0
no_five : (n : ℕ) → IsNumeral 64 n (codes "05") → ⊥
unfolding digits
no_five n is =
    let five : n ≡ 5 = sym (decimal_is_IsNumeral n is.1).1 ∙ ap (digits_value 10) is.0 in
    let f : 1 ≡ 2 = ap (λ (m : ℕ). length (decimal m)) (sym five) ∙ ap (λ (t : Text). length t) is.0 in
    omega (arith, f)

pub never_padded : HasNoBody (codes "lines 05:\n")
never_padded =
    let body = codes "lines 05:\n" in
    unended body (λ e. omega (arith, e)) (λ e. omega (arith, e)) (λ e. omega (arith, e)) (not_kept body refl)
    (no_count body (codes " 05:\n") refl
    (no_numeral (codes " 05:\n") (codes "05:\n") refl (codes "05") (10 ∷ [])
    (refl, All-cons (λ b. b ≢ 58) 48 (53 ∷ []) (λ e. omega (arith, e)) (All-cons (λ b. b ≢ 58) 53 [] (λ e. omega (arith, e)) (All-nil (λ b. b ≢ 58)))) no_five))

pub never_too_long : HasNoBody (codes "kept 9:1.2\nlines 5:\n")
unfolding digits
never_too_long =
    let body = codes "kept 9:1.2\nlines 5:\n" in
    unended body (λ e. omega (arith, e)) (λ e. omega (arith, e)) (λ e. omega (arith, e))
    (unended_kept body (codes " 9:1.2\nlines 5:\n") refl (codes "1.2\nlines") (codes " 5:\n") (omega arith, refl) (λ rest e. let f : 32 ≡ 10 = ap first e in omega (arith, f)))
    (λ n rest is. let f : 107 ≡ 108 = ap first is.1 in omega (arith, f))

pub never_behind : HasNoBody (codes "lines 5:\n\n")
unfolding digits
never_behind =
    let body = codes "lines 5:\n\n" in
    more_behind body (λ e. omega (arith, e)) (λ e. omega (arith, e)) (λ e. omega (arith, e)) (not_kept body refl) 5 (10 ∷ []) (omega arith, refl)
    (λ e. let f : 1 ≡ 0 = ap (λ (t : Text). length t) e in omega (arith, f))

-- ---- refusals

fits_kept : (count : ℕ) (kept : List Text) → count < 2 ^ 64 → All FitsField kept → FitsBalance (of_kept count kept)
fits_kept count kept low all = record { items = All-nil FitsItem; arrivals = All-nil FitsArrival; kept = all; rows = All-nil FitsRow; count = low }

two_fit : (one next : Text) → FitsField one → FitsField next → All FitsField (one ∷ next ∷ [])
two_fit one next p q = All-cons FitsField one (next ∷ []) p (All-cons FitsField next [] q (All-nil FitsField))

abbrev all_low : List ℕ → Bool
all_low [] = true
all_low (c ∷ cs) = nat_lt c 128 && all_low cs

ascii : (xs : List ℕ) → all_low xs ≡ true → IsAscii xs
ascii [] e = IsAscii-nil
ascii (c ∷ cs) e = let both = and_parts (nat_lt c 128) (all_low cs) e in IsAscii-cons c cs (ltb-true c 128 both.0) (ascii cs both.1)

no_hex : (body : Text) → replicate 64 200 ≡ encode_lower (sha256 body) → ⊥
no_hex body e =
    let low : slice_index (replicate 64 200) 0 < 128 = subst (λ (t : Text). slice_index t 0 < 128) (sym e) (IsAscii-encode_with lower_digits (sha256 body) (ascii lower_digits refl) 0) in
    omega (arith, low)

pub can_come : RefusalsCanCome
can_come = (
  too_few [] (omega arith),
  (codes "lines 5:\n", replicate 64 200, (refl, refl), no_hex (codes "lines 5:\n")),
  ([], refl, never_empty),
  (of_kept 5 [], (fits_kept 5 [] (omega arith) (All-nil FitsField), refl), omega arith),
  (
    of_kept 5 (codes "1.3" ∷ codes "1.2" ∷ []),
    (fits_kept 5 (codes "1.3" ∷ codes "1.2" ∷ []) (omega arith) (two_fit (codes "1.3") (codes "1.2") (omega arith) (omega arith)), refl),
    omega arith,
    inr (inr (inl (record { place = 0; one = codes "1.3"; next = codes "1.2"; within = omega arith; is_one = refl; is_next = refl; so = refl }))),
  ),
  (
    of_kept 5 (codes "1.2" ∷ codes "1.2" ∷ []),
    (fits_kept 5 (codes "1.2" ∷ codes "1.2" ∷ []) (omega arith) (two_fit (codes "1.2") (codes "1.2") (omega arith) (omega arith)), refl),
    omega arith,
    inr (inr (inl (record { place = 0; one = codes "1.2"; next = codes "1.2"; within = omega arith; is_one = refl; is_next = refl; so = refl }))),
  ),
)
