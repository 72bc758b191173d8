-- What is shown is read back: no two texts are shown alike.
use Rattle.std.proofs.Common.{◌≡◌, ◌⊎◌, ◌≤◌, ◌<◌, ℕ, Bool, true, false, List, [], ◌∷◌, ◌++◌, inl, inr, refl, sym, ap, ap₂, subst, ◌∙◌, All, cond, arith, length, length-append}
use Rattle.std.specs.Prelude.{◌+◌, ◌-◌, ◌*◌, ◌/◌, ◌%◌, ◌==◌, nat_lt, if◌then◌else◌}
use Rattle.std.proofs.lemmas.Bool.{cases_Bool, cond-true, cond-false}
use Rattle.std.proofs.lemmas.Bool.Decides.{nat_tests}
use Rattle.std.proofs.lemmas.List.Elements.{All-head, All-tail}
use Rattle.dr_base_quoted.specs.Quoting.{IsByte, hex_digit, is_plain}
use Rattle.dr_run_shown.specs.Showing.{escaped_bytes, shown_byte}
use Rattle.dr_run_shown.proofs.Forms.{form}

-- the number of a digit
abbrev value_of : ℕ → ℕ
value_of d = if nat_lt d 58 then d - 48 else d - 87

-- what two digits stand for, and what follows them
abbrev digits : List ℕ → ℕ × List ℕ
digits [] = (0, [])
digits (h ∷ []) = (0, [])
digits (h ∷ l ∷ r) = (value_of h * 16 + value_of l, r)

-- what stands behind a backslash
abbrev behind : List ℕ → ℕ × List ℕ
behind [] = (0, [])
behind (c ∷ r) = if c == 110 then (10, r) else (if c == 120 then digits r else (c, r))

-- the first byte that is shown, and what follows it
abbrev first_of : List ℕ → ℕ × List ℕ
first_of [] = (0, [])
first_of (c ∷ r) = if c == 92 then behind r else (c, r)

digit_value : (n : ℕ) → n < 16 → value_of (hex_digit n) ≡ n
digit_value n small = elim (cases_Bool (nat_lt n 10)) [
  | inl low ↦ ap value_of (cond-true _ _ _ low) ∙ cond-true (nat_lt (48 + n) 58) _ _ (grind (arith, nat_tests)) ∙ omega arith
  | inr high ↦ ap value_of (cond-false _ _ _ high) ∙ cond-false (nat_lt (87 + n) 58) _ _ (grind (arith, nat_tests)) ∙ omega arith
]

read_back : (b : ℕ) → IsByte b → (r : List ℕ) → first_of (shown_byte b ++ r) ≡ (b, r)
read_back b small r = elim (form b) [
  | inl plain ↦ ap (λ (l : List ℕ). first_of (l ++ r)) plain.1 ∙ cond-false (b == 92) _ _ (grind (arith, nat_tests))
  | inr (inl feed) ↦ ap (λ (l : List ℕ). first_of (l ++ r)) feed.1 ∙ ap (λ (n : ℕ). (n, r)) (sym feed.0)
  | inr (inr (inl marked)) ↦ ap (λ (l : List ℕ). first_of (l ++ r)) marked.1 ∙ elim marked.0 [
    | inl quote ↦ subst (λ (n : ℕ). behind (n ∷ r) ≡ (n, r)) (sym quote) refl
    | inr mark ↦ subst (λ (n : ℕ). behind (n ∷ r) ≡ (n, r)) (sym mark) refl
  ]
  | inr (inr (inr hex)) ↦
      ap (λ (l : List ℕ). first_of (l ++ r)) hex ∙ ap₂ (λ (h l : ℕ). (h * 16 + l, r)) (digit_value (b / 16) (omega arith)) (digit_value (b % 16) (omega arith)) ∙ ap (λ (n : ℕ). (n, r)) (omega arith)
]

some_shown : (b : ℕ) → 1 ≤ length (shown_byte b)
some_shown b = elim (form b) [
  | inl plain ↦ subst (λ (l : List ℕ). 1 ≤ length l) (sym plain.1) (omega arith)
  | inr (inl feed) ↦ subst (λ (l : List ℕ). 1 ≤ length l) (sym feed.1) (omega arith)
  | inr (inr (inl marked)) ↦ subst (λ (l : List ℕ). 1 ≤ length l) (sym marked.1) (omega arith)
  | inr (inr (inr hex)) ↦ subst (λ (l : List ℕ). 1 ≤ length l) (sym hex) (omega arith)
]

none_empty : (b : ℕ) (r : List ℕ) → [] ≡ shown_byte b ++ r → ⊥
none_empty b r e =
    let some = some_shown b in
    let whole = length-append (shown_byte b) r in
    let none = ap length e in omega arith

pub one_form : (these those : List ℕ) → All IsByte these → All IsByte those → escaped_bytes these ≡ escaped_bytes those → these ≡ those
one_form [] [] xs ys e = refl
one_form [] (b ∷ bs) xs ys e = absurd (none_empty b (escaped_bytes bs) e)
one_form (a ∷ more) [] xs ys e = absurd (none_empty a (escaped_bytes more) (sym e))
one_form (a ∷ more) (b ∷ bs) xs ys e =
    let same : (a, escaped_bytes more) ≡ (b, escaped_bytes bs) = sym (read_back a (All-head IsByte a more xs) (escaped_bytes more)) ∙ ap first_of e ∙ read_back b (All-head IsByte b bs ys) (escaped_bytes bs) in
    ap₂ (λ (x : ℕ) (l : List ℕ). x ∷ l) (ap (λ (p : ℕ × List ℕ). p.0) same) (one_form more bs (All-tail IsByte a more xs) (All-tail IsByte b bs ys) (ap (λ (p : ℕ × List ℕ). p.1) same))
