-- The first and the last byte of a text.
use Rattle.std.proofs.Common.{◌≡◌, ℕ, ◌+◌, ◌<◌, sym, ◌∙◌, ap, [], ◌∷◌, ◌++◌, length, get_or, take, arith, length-append, ◌==◌, false}
use Rattle.std.proofs.lemmas.List.{take_more, take_all, get_or_push}
use Rattle.std.proofs.lemmas.Bool.Decides.{nat_tests}
use Rattle.dr_base.specs.Texts.{Text}
use Rattle.dr_plan_model.specs.Formed.{IsTrimmed}

last_is : (text : Text) (n : ℕ) → n + 1 ≡ length text → text ≡ take n text ++ get_or text n 0 ∷ []
last_is text n e = let more = take_more text n 0 (omega arith) in let all : take (n + 1) text ≡ text = take_all _ _ (omega arith) in sym all ∙ more

pub trimmed : (text : Text) (n : ℕ) → n + 1 ≡ length text → (get_or text 0 0 ≡ 32 → ⊥) → (get_or text n 0 ≡ 32 → ⊥) → IsTrimmed text
trimmed text n e first last rest = (
  λ starts. first (ap (λ (t : Text). get_or t 0 0) starts),
  λ ends. last (
      let l : length rest ≡ n = omega (arith, ap (λ (t : Text). length t) ends, length-append rest (32 ∷ [])) in
      ap (λ (t : Text). get_or t n 0) ends ∙ get_or_push rest 32 0 n l),
)

pub first_not_space : (text : Text) → 0 < length text → IsTrimmed text → get_or text 0 0 ≡ 32 → ⊥
first_not_space [] some is e = omega arith
first_not_space (x ∷ xs) some is e = (is xs).0 (ap (λ (y : ℕ). y ∷ xs) e)

pub last_not_space : (text : Text) (n : ℕ) → n + 1 ≡ length text → IsTrimmed text → get_or text n 0 ≡ 32 → ⊥
last_not_space text n e is same = (is (take n text)).1 (rw same at (last_is text n e))

pub nothing_trimmed : (text : Text) → length text ≡ 0 → IsTrimmed text
nothing_trimmed [] e rest = (λ h. cc, λ h. let l : 0 ≡ length rest + 1 = omega (arith, ap (λ (t : Text). length t) h, length-append rest (32 ∷ [])) in omega arith)
nothing_trimmed (x ∷ xs) e rest = omega arith

pub some_bytes : (text : Text) → false ≡ (length text == 0) → 0 < length text
some_bytes text e = grind (arith, nat_tests)
