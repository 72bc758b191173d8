-- What stands for a byte is no markup.
use Rattle.std.proofs.Common.{◌<◌, ℕ, List, [], ◌∷◌, inl, inr, sym, subst}
use Rattle.std.proofs.Common.{All, arith, refl}
use Rattle.std.specs.Prelude.{◌/◌, ◌%◌, nat_lt}
use Rattle.std.proofs.lemmas.Bool.{cases_Bool, cond-true, cond-false}
use Rattle.std.proofs.lemmas.Bool.Decides.{nat_tests}
use Rattle.std.proofs.lemmas.List.Elements.{All-nil, All-cons}
use Rattle.dr_base_quoted.specs.Quoting.{hex_digit}
use Rattle.dr_run_page.specs.Markup.{IsHarmlessByte, stands_in_markup, markup_byte}

-- a digit is harmless
digit : (n : ℕ) → n < 16 → IsHarmlessByte (hex_digit n)
digit n small =
    elim (cases_Bool (nat_lt n 10)) [
      | inl low ↦
          subst IsHarmlessByte (sym (cond-true _ _ _ low))
          (grind (arith, nat_tests), grind (arith, nat_tests), grind (arith, nat_tests))
      | inr high ↦
          subst IsHarmlessByte (sym (cond-false _ _ _ high))
          (omega arith, omega arith, grind (arith, nat_tests))
    ]

before : (b : ℕ) (bs : List ℕ) → IsHarmlessByte b → All IsHarmlessByte bs → All IsHarmlessByte (b ∷ bs)
before b bs one rest = All-cons IsHarmlessByte b bs one rest

-- whatever the byte is
pub byte : (b : ℕ) → b < 256 → All IsHarmlessByte (markup_byte b)
byte b small =
    elim (cases_Bool (stands_in_markup b)) [
      | inl plain ↦
          subst (All IsHarmlessByte) (sym (cond-true _ _ _ plain))
          (before b []
          (grind (arith, nat_tests), grind (arith, nat_tests), grind (arith, nat_tests))
          (All-nil IsHarmlessByte))
      | inr other ↦
          let high = hex_digit (b / 16) in
          let low = hex_digit (b % 16) in
          subst (All IsHarmlessByte) (sym (cond-false _ _ _ other))
          (before 92 (120 ∷ high ∷ low ∷ []) (omega arith, omega arith, refl)
          (before 120 (high ∷ low ∷ []) (omega arith, omega arith, refl)
          (before high (low ∷ []) (digit (b / 16) (omega arith))
          (before low [] (digit (b % 16) (omega arith)) (All-nil IsHarmlessByte)))))
    ]
