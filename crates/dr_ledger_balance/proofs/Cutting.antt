-- Fields, cut off the front of a text.
use Rattle.std.proofs.Common.{◌≡◌, ◌≢◌, ◌∙◌, ◌<◌, ◌≤◌, ◌^◌, ℕ, List, ◌∷◌, ◌++◌, refl, sym, ap, subst, arith, drop, length, codes, decimal}
use Rattle.std.proofs.lemmas.List.{length-append}
use Rattle.std.proofs.lemmas.List.Elements.{All-head}
use Rattle.hex.specs.Hex.{encode_lower}
use Rattle.dr_base.specs.Numbers.{IsNumeral}
use Rattle.dr_base.specs.Texts.{Text}
use Rattle.dr_base.specs.Syntaxes.{NamesNoSyntax, syntax_uid}
use Rattle.dr_base.specs.declared.syntax.Syntax.{Syntax}
use Rattle.dr_cert_text.specs.Cuts.{Lacks, SplitsAt}
use Rattle.dr_cert_text.specs.Printable.{IsDigest}
use Rattle.dr_cert_text.proofs.Splits.{All-back, unsplit}
use Rattle.dr_ledger.specs.declared.item.Cause.TheVariants as cause
use Rattle.dr_ledger.specs.declared.item.Progress.TheVariants as progress
use Rattle.dr_ledger_balance.specs.Fields.{FitsField, FitsNumber, FitsProgress, digest_then, field_then, number_then, progress_then, syntax_then}
use Rattle.dr_ledger_balance.specs.Pieces.{AreToldApart, HasNone, IsPiece}
use Rattle.dr_ledger_balance.proofs.Apart.{field_apart, fits_digits, fits_uid, held_between, no_colon, number_apart, word_number}

-- what is behind a piece that was cut off, where the text is told as another one
pub behind : {X : Type 0} (Fits : X → Type 0) (spelled : X → Text → Text) → AreToldApart Fits spelled → (text : Text) (x y : X) (a b : Text)
    → IsPiece Fits spelled text x a → Fits y → text ≡ spelled y b → (x ≡ y) × (a ≡ b)
behind Fits spelled apart text x y a b cut fits e = apart x y a b cut.0 fits (sym cut.1 ∙ e)

-- ---- numbers

module _ (text rest : Text) (opens : text ≡ 32 ∷ rest) where
  rest_is : (n : ℕ) (later : Text) → IsPiece FitsNumber number_then text n later → rest ≡ decimal n ++ 58 ∷ later
  rest_is n later is = ap (λ (l : List ℕ). drop 1 l) (sym opens ∙ is.1)

  pub unended_number : Lacks 58 rest → HasNone FitsNumber number_then text
  unended_number lacks n later is =
      All-head (λ b. b ≢ 58) 58 later (All-back (λ b. b ≢ 58) (decimal n) (58 ∷ later) (subst (Lacks 58) (rest_is n later is) lacks)) refl

  module _ (digits more : Text) (split : SplitsAt 58 rest digits more) where
    halves : (n : ℕ) (later : Text) → IsPiece FitsNumber number_then text n later → (digits ≡ decimal n) × (more ≡ later)
    halves n later is = unsplit 58 digits (decimal n) more later split.1 (no_colon n is.0) (sym split.0 ∙ rest_is n later is)

    pub no_numeral : ((n : ℕ) → IsNumeral 64 n digits → ⊥) → HasNone FitsNumber number_then text
    no_numeral none n later is = none n (sym (halves n later is).0, is.0)

    pub number_there : (n : ℕ) → IsNumeral 64 n digits → IsPiece FitsNumber number_then text n more
    number_there n numeral = (numeral.1, opens ∙ ap (λ (l : List ℕ). 32 ∷ l) (split.0 ∙ ap (λ (l : List ℕ). l ++ 58 ∷ more) (sym numeral.0)))

module _ (text : Text) (n : ℕ) (more : Text) (cut : IsPiece FitsNumber number_then text n more) where
  -- where the number is too great for what stands there, no other one is
  pub too_great : (bound : ℕ) → bound ≤ 2 ^ 64 → (n < bound → ⊥) → HasNone (λ m. m < bound) number_then text
  too_great bound low great m later is =
      let same = behind FitsNumber number_then number_apart text n m more later cut (omega (arith, is.0, low)) is.1 in
      great (omega (arith, same.0, is.0))

  pub small_there : (bound small : ℕ) → n < bound → small ≡ n → IsPiece (λ m. m < bound) number_then text small more
  small_there bound small low is = (omega (arith, low, is), cut.1 ∙ ap (λ (m : ℕ). number_then m more) (sym is))

  -- ---- texts

  field_is : (v later : Text) → IsPiece FitsField field_then text v later → (n ≡ length v) × (more ≡ v ++ later)
  field_is v later is = behind FitsNumber number_then number_apart text n (length v) more (v ++ later) cut is.0 is.1

  pub too_short : length more < n → HasNone FitsField field_then text
  too_short short v later is =
      let same = field_is v later is in
      let l : length more ≡ length (v ++ later) = ap (λ (t : List ℕ). length t) same.1 in
      let m = length-append v later in
      omega (arith, short, same.0, l, m)

  pub field_there : (v later : Text) → more ≡ v ++ later → length v ≡ n → IsPiece FitsField field_then text v later
  field_there v later e l =
      (omega (arith, l, cut.0), cut.1 ∙ ap (λ (m : ℕ). number_then m more) (sym l) ∙ ap (λ (t : List ℕ). number_then (length v) t) e)

pub no_field : (text : Text) → HasNone FitsNumber number_then text → HasNone FitsField field_then text
no_field text none v later is = none (length v) (v ++ later) is

-- ---- transfer syntaxes and digests

pub no_uid : (text : Text) → HasNone FitsField field_then text → HasNone (λ (s : Syntax). Unit {0}) syntax_then text
no_uid text none s later is = none (syntax_uid s) later (fits_uid s, is.1)

pub no_digits : (text : Text) → HasNone FitsField field_then text → HasNone IsDigest digest_then text
no_digits text none d later is = none (encode_lower d) later (fits_digits d is.0, is.1)

module _ (text v more : Text) (cut : IsPiece FitsField field_then text v more) where
  pub no_syntax : NamesNoSyntax v → HasNone (λ (s : Syntax). Unit {0}) syntax_then text
  no_syntax none s later is = none s (behind FitsField field_then field_apart text v (syntax_uid s) more later cut (fits_uid s) is.1).0

  pub syntax_there : (s : Syntax) → v ≡ syntax_uid s → IsPiece (λ (s : Syntax). Unit {0}) syntax_then text s more
  syntax_there s e = (tt, cut.1 ∙ ap (λ (t : List ℕ). field_then t more) e)

  pub no_digest : ((d : List ℕ) → IsDigest d → encode_lower d ≡ v → ⊥) → HasNone IsDigest digest_then text
  no_digest none d later is = none d is.0 (sym (behind FitsField field_then field_apart text v (encode_lower d) more later cut (fits_digits d is.0) is.1).0)

  pub digest_there : (d : List ℕ) → IsDigest d × (encode_lower d ≡ v) → IsPiece IsDigest digest_then text d more
  digest_there d found = (found.0, cut.1 ∙ ap (λ (t : List ℕ). field_then t more) (sym found.1))

-- ---- how far a row is

abbrev No : Text → Text → Type 0
No word text = (rest : Text) → text ≡ word ++ rest → ⊥

pub no_progress : (text : Text) → No (codes " done") text → No (codes " dropped") text → No (codes " no-context") text → No (codes " unreadable") text
    → No (codes " status") text → No (codes " waiting") text → HasNone FitsProgress progress_then text
no_progress text d r n u s w (progress.Waiting tries due) later is = w (number_then tries (number_then due later)) is.1
no_progress text d r n u s w (progress.Held (cause.Status status)) later is = s (number_then status later) is.1
no_progress text d r n u s w (progress.Held cause.NoContext) later is = n later is.1
no_progress text d r n u s w (progress.Held cause.Unreadable) later is = u later is.1
no_progress text d r n u s w progress.Done later is = d later is.1
no_progress text d r n u s w progress.Dropped later is = r later is.1

pub no_status : (text rest : Text) → text ≡ codes " status" ++ rest → HasNone (λ n. n < 2 ^ 16) number_then rest → HasNone FitsProgress progress_then text
no_status text rest opens none (progress.Held (cause.Status status)) later is = none status later (is.0, ap (λ (l : List ℕ). drop 7 l) (sym opens ∙ is.1))
no_status text rest opens none p later is = absurd (omega (arith, ap word_number (sym opens ∙ is.1)))

module _ (text rest : Text) (opens : text ≡ codes " waiting" ++ rest) where
  pub no_tries : HasNone (λ n. n < 2 ^ 32) number_then rest → HasNone FitsProgress progress_then text
  no_tries none (progress.Waiting tries due) later is = none tries (number_then due later) (is.0.0, ap (λ (l : List ℕ). drop 8 l) (sym opens ∙ is.1))
  no_tries none (progress.Held c) later is = let l = held_between c later in absurd (omega (arith, l.0, l.1, ap word_number (sym opens ∙ is.1)))
  no_tries none p later is = absurd (omega (arith, ap word_number (sym opens ∙ is.1)))

  module _ (t : ℕ) (more : Text) (cut : IsPiece (λ n. n < 2 ^ 32) number_then rest t more) where
    pub no_due : HasNone FitsNumber number_then more → HasNone FitsProgress progress_then text
    no_due none (progress.Waiting tries due) later is =
        none due later (is.0.1, (number_apart t tries more (number_then due later) (omega (arith, cut.0)) (omega (arith, is.0.0)) (sym cut.1 ∙ ap (λ (l : List ℕ). drop 8 l) (sym opens ∙ is.1))).1)
    no_due none (progress.Held c) later is = let l = held_between c later in absurd (omega (arith, l.0, l.1, ap word_number (sym opens ∙ is.1)))
    no_due none p later is = absurd (omega (arith, ap word_number (sym opens ∙ is.1)))

    pub waiting_there : (due : ℕ) (later : Text) → IsPiece FitsNumber number_then more due later → IsPiece FitsProgress progress_then text (progress.Waiting t due) later
    waiting_there due later found =
        ((cut.0, found.0), opens ∙ ap (λ (l : List ℕ). codes " waiting" ++ l) (cut.1 ∙ ap (λ (l : List ℕ). number_then t l) found.1))

pub status_there : (text rest : Text) → text ≡ codes " status" ++ rest → (status : ℕ) (later : Text) → IsPiece (λ n. n < 2 ^ 16) number_then rest status later
    → IsPiece FitsProgress progress_then text (progress.Held (cause.Status status)) later
status_there text rest opens status later cut = (cut.0, opens ∙ ap (λ (l : List ℕ). codes " status" ++ l) cut.1)
