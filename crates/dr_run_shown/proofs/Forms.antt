-- The forms of a byte that is shown.
use Rattle.std.proofs.Common.{◌≡◌, ◌⊎◌, ◌≤◌, ◌<◌, ℕ, Bool, true, false, List, [], ◌∷◌, ◌++◌, inl, inr, refl, sym, ap, subst, ◌∙◌, All, IsTrue, cond, arith, length, take, flat_map, codes, length-append, append-nil, length-take-le}
use Rattle.std.specs.Prelude.{◌+◌, ◌*◌, ◌/◌, ◌%◌, ◌==◌, ◌&&◌, ◌||◌, not, nat_le, nat_lt}
use Rattle.std.proofs.lemmas.Bool.{cases_Bool, cond-true, cond-false}
use Rattle.std.proofs.lemmas.Bool.Decides.{nat_tests}
use Rattle.std.proofs.lemmas.List.Elements.{All-nil, All-cons, All-append, All-head, All-tail, All-take}
use Rattle.dr_base_quoted.specs.Quoting.{IsByte, hex_digit, is_plain}
use Rattle.dr_run_shown.specs.Showing.{escaped_bytes, byte_escape, shown, shown_byte}
use Rattle.dr_run_shown.specs.Laws.{IsPrintable}

-- what a byte is, and how it is shown
abbrev pub Form : ℕ → Type 0
Form b =
    ((is_plain b ≡ true) × (shown_byte b ≡ b ∷ []))
    ⊎ (((b ≡ 10) × (shown_byte b ≡ 92 ∷ 110 ∷ []))
    ⊎ ((((b ≡ 34) ⊎ (b ≡ 92)) × (shown_byte b ≡ 92 ∷ b ∷ []))
    ⊎ (shown_byte b ≡ byte_escape b)))

pub form : (b : ℕ) → Form b
form b = elim (cases_Bool (is_plain b)) [
  | inl is ↦ inl (is, cond-true _ _ _ is)
  | inr isnt ↦ inr (elim (cases_Bool (b == 10)) [
    | inl feed ↦ inl (grind (arith, nat_tests), cond-false _ _ _ isnt ∙ cond-true _ _ _ feed)
    | inr other ↦ inr (elim (cases_Bool ((b == 34) || (b == 92))) [
      | inl marked ↦ inl (grind (arith, nat_tests), cond-false _ _ _ isnt ∙ cond-false _ _ _ other ∙ cond-true _ _ _ marked)
      | inr rest ↦ inr (cond-false _ _ _ isnt ∙ cond-false _ _ _ other ∙ cond-false _ _ _ rest)
    ])
  ])
]

-- a digit prints
pub digit_prints : (n : ℕ) → n < 16 → IsPrintable (hex_digit n)
digit_prints n small = elim (cases_Bool (nat_lt n 10)) [
  | inl low ↦ subst IsPrintable (sym (cond-true _ _ _ low)) (grind (arith, nat_tests), grind (arith, nat_tests))
  | inr high ↦ subst IsPrintable (sym (cond-false _ _ _ high)) (omega arith, omega arith)
]

-- such bytes, one before others
prints : (b : ℕ) (bs : List ℕ) → 32 ≤ b → b ≤ 126 → All IsPrintable bs → All IsPrintable (b ∷ bs)
prints b bs low high rest = All-cons IsPrintable b bs (low, high) rest

-- whatever the byte is, only text is shown of it
pub byte_prints : (b : ℕ) → IsByte b → All IsPrintable (shown_byte b)
byte_prints b small = elim (form b) [
  | inl plain ↦ subst (All IsPrintable) (sym plain.1) (prints b [] (grind (arith, nat_tests)) (grind (arith, nat_tests)) (All-nil IsPrintable))
  | inr (inl feed) ↦ subst (All IsPrintable) (sym feed.1) (prints 92 (110 ∷ []) (omega arith) (omega arith) (prints 110 [] (omega arith) (omega arith) (All-nil IsPrintable)))
  | inr (inr (inl marked)) ↦ subst (All IsPrintable) (sym marked.1) (prints 92 (b ∷ []) (omega arith) (omega arith) (prints b [] (grind (arith, nat_tests)) (grind (arith, nat_tests)) (All-nil IsPrintable)))
  | inr (inr (inr hex)) ↦
      let high = digit_prints (b / 16) (omega arith) in
      let low = digit_prints (b % 16) (omega arith) in
      subst (All IsPrintable) (sym hex)
      (prints 92 (120 ∷ hex_digit (b / 16) ∷ hex_digit (b % 16) ∷ []) (omega arith) (omega arith) (prints 120 (hex_digit (b / 16) ∷ hex_digit (b % 16) ∷ []) (omega arith) (omega arith)
      (prints (hex_digit (b / 16)) (hex_digit (b % 16) ∷ []) high.0 high.1 (prints (hex_digit (b % 16)) [] low.0 low.1 (All-nil IsPrintable)))))
]

-- all bytes of a text
pub text_prints : (text : List ℕ) → All IsByte text → All IsPrintable (escaped_bytes text)
text_prints [] bytes = All-nil IsPrintable
text_prints (b ∷ bs) bytes = All-append IsPrintable (shown_byte b) (escaped_bytes bs) (byte_prints b (All-head IsByte b bs bytes)) (text_prints bs (All-tail IsByte b bs bytes))

-- of a text as it is shown
pub shown_prints : (text : List ℕ) → All IsByte text → All IsPrintable (shown text)
shown_prints text bytes = elim (cases_Bool (nat_le (length text) 128)) [
  | inl short ↦ subst (All IsPrintable) (sym (cond-true _ _ _ short)) (text_prints text bytes)
  | inr long ↦ subst (All IsPrintable) (sym (cond-false _ _ _ long))
      (All-append IsPrintable (escaped_bytes (take 128 text)) (92 ∷ 46 ∷ 46 ∷ []) (text_prints (take 128 text) (All-take IsByte 128 text bytes))
      (prints 92 (46 ∷ 46 ∷ []) (omega arith) (omega arith) (prints 46 (46 ∷ []) (omega arith) (omega arith) (prints 46 [] (omega arith) (omega arith) (All-nil IsPrintable)))))
]

-- of one byte no more than four are shown
byte_bounded : (b : ℕ) → length (shown_byte b) ≤ 4
byte_bounded b = elim (form b) [
  | inl plain ↦ subst (λ (l : List ℕ). length l ≤ 4) (sym plain.1) (omega arith)
  | inr (inl feed) ↦ subst (λ (l : List ℕ). length l ≤ 4) (sym feed.1) (omega arith)
  | inr (inr (inl marked)) ↦ subst (λ (l : List ℕ). length l ≤ 4) (sym marked.1) (omega arith)
  | inr (inr (inr hex)) ↦ subst (λ (l : List ℕ). length l ≤ 4) (sym hex) (omega arith)
]

text_bounded : (text : List ℕ) → length (escaped_bytes text) ≤ 4 * length text
text_bounded [] = omega arith
text_bounded (b ∷ bs) =
    let one = byte_bounded b in
    let more = text_bounded bs in
    let whole = length-append (shown_byte b) (escaped_bytes bs) in omega arith

pub shown_bounded : (text : List ℕ) → length (shown text) ≤ 515
shown_bounded text = elim (cases_Bool (nat_le (length text) 128)) [
  | inl short ↦
      let some = text_bounded text in
      subst (λ (l : List ℕ). length l ≤ 515) (sym (cond-true _ _ _ short)) (grind (arith, nat_tests, some, short))
  | inr long ↦
      let some = text_bounded (take 128 text) in
      let cut = length-take-le 128 text (grind (arith, nat_tests, long)) in
      let whole = length-append (escaped_bytes (take 128 text)) (92 ∷ 46 ∷ 46 ∷ []) in
      subst (λ (l : List ℕ). length l ≤ 515) (sym (cond-false _ _ _ long)) (grind (arith, some, cut, whole))
]

-- plain text is shown as it stands
pub plain_stands : (text : List ℕ) → All (λ b. IsTrue (is_plain b)) text → escaped_bytes text ≡ text
plain_stands [] plain = refl
plain_stands (b ∷ bs) plain =
    let first : is_plain b ≡ true = All-head (λ c. IsTrue (is_plain c)) b bs plain in
    ap (λ l. l ++ escaped_bytes bs) (cond-true _ _ _ first) ∙ ap (λ l. b ∷ l) (plain_stands bs (All-tail (λ c. IsTrue (is_plain c)) b bs plain))

-- a text that isn't long is shown whole
pub short_stands : (text : List ℕ) → length text ≤ 128 → shown text ≡ escaped_bytes text
short_stands text short = cond-true (nat_le (length text) 128) _ _ (grind (arith, nat_tests, short))
