-- Numbers of rows, as they are written.
use Rattle.std.proofs.Common.{◌≡◌, ℕ, ◌<◌, ◌≤◌, ◌^◌, List, decimal, sym, subst, ◌∙◌, arith}
use Rattle.dr_base.specs.Numbers.{IsNumeral}
use Rattle.std.proofs.lemmas.Fmt.{decimal_injective}
use Rattle.dr_run_request.specs.Forms.{IsLimit}

-- a text is of one number
pub one_number : (word : List ℕ) (m n : ℕ) → IsLimit m → IsLimit n → word ≡ decimal m → word ≡ decimal n → m ≡ n
one_number word m n a b x y = decimal_injective m n (omega (arith, a.1)) (omega (arith, b.1)) (sym x ∙ y)

-- a number that isn't within the bounds isn't named by its own text
pub not_within : (word : List ℕ) (number : ℕ) → number < 2 ^ 32 → word ≡ decimal number → (IsLimit number → ⊥) → (n : ℕ) → IsLimit n → word ≡ decimal n → ⊥
not_within word number fits is deny n small e =
    let same : number ≡ n = decimal_injective number n (omega (arith, fits)) (omega (arith, small.1)) (sym is ∙ e) in
    let Q : ℕ → Type 0 = λ k. IsLimit k in
    deny (subst Q (sym same) small)

-- what writes no number writes none within the bounds
pub writes_none : (word : List ℕ) → ((n : ℕ) → IsNumeral 32 n word → ⊥) → (n : ℕ) → IsLimit n → word ≡ decimal n → ⊥
writes_none word none n small e = none n (sym e, omega (arith, small.1))
