-- Numbers read again as they were written.
use Rattle.std.proofs.Common.{◌≡◌, ℕ, ◌<◌, Bool, true, false, not, eqb, List, decimal, Result, Ok, Err, refl, sym, ap, ◌∙◌, arith}
use Rattle.std.specs.Cmp.Lexicographic.{pointwise}
use Rattle.std.proofs.lemmas.Slice.Eq.{bytes_eq-Decides}
use Rattle.std.specs.Str.Parse.{ParsesUnsigned}
use Rattle.std.proofs.lemmas.Fmt.{decimal_injective, parse-decimal}
use Rattle.dr_base.specs.Numbers.{IsNumeral}

-- no number is written so, where it would be read as one that is written otherwise
pub not_this_number : (field text again : List ℕ) (number : ℕ) → text ≡ field → ParsesUnsigned {E = ℕ} 64 10 text (Ok number) → again ≡ decimal number → (again ≡ field → ⊥) →
    (n : ℕ) → IsNumeral 64 n field → ⊥
not_this_number field text again number same parsed written differs n is =
    let found : ◌≡◌ {A = Result ℕ ℕ} (Ok number) (Ok n) = parse-decimal 64 n text (Ok number) (omega arith) is.1 (same ∙ sym is.0) parsed in
    let one : number ≡ n = cc in
    differs (written ∙ ap decimal one ∙ is.0)

pub not_a_number : (field text : List ℕ) → text ≡ field → ParsesUnsigned {E = ℕ} 64 10 text (Err 0) → (n : ℕ) → IsNumeral 64 n field → ⊥
not_a_number field text same parsed n is =
    let found : ◌≡◌ {A = Result ℕ ℕ} (Err 0) (Ok n) = parse-decimal 64 n text (Err 0) (omega arith) is.1 (same ∙ sym is.0) parsed in
    absurd (cc)

-- what a test by `!=` says
pub differ_from : (r : Bool) (xs ys : List ℕ) → r ≡ not (pointwise eqb xs ys) → r ≡ true → xs ≡ ys → ⊥
differ_from r xs ys ne is same =
    let yes : pointwise eqb xs ys ≡ true = (bytes_eq-Decides xs ys).1 same in
    let no : r ≡ false = rw yes at ne in
    absurd (cc)

pub same_from : (r : Bool) (xs ys : List ℕ) → r ≡ not (pointwise eqb xs ys) → r ≡ false → xs ≡ ys
same_from r xs ys ne is = by_test (pointwise eqb xs ys) refl
  where
    by_test : (t : Bool) → pointwise eqb xs ys ≡ t → xs ≡ ys
    by_test true e = (bytes_eq-Decides xs ys).0 e
    by_test false e = let yes : r ≡ true = rw e at ne in absurd (cc)

-- what writes a number that is too great writes no smaller one
pub too_great : (field : List ℕ) (number n : ℕ) → IsNumeral 64 number field → (number < 4294967296 → ⊥) → IsNumeral 32 n field → ⊥
too_great field number n is great small =
    let same : number ≡ n = decimal_injective number n is.1 (omega (arith, small.1)) (is.0 ∙ sym small.0) in
    great (omega (arith, same, small.1))

pub is_small : (field : List ℕ) (number small : ℕ) → IsNumeral 64 number field → number < 4294967296 → small ≡ number → IsNumeral 32 small field
is_small field number small is fits same = (ap decimal same ∙ is.0, omega (arith, same, fits))
