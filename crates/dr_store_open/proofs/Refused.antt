-- Where an opening refuses a file.
use Rattle.std.proofs.Common.{◌≡◌, ◌∙◌, Bool, false, true≢false, Result, Ok, Err, IsTrue, sym}
use Rattle.std.specs.Prelude.{◌↔◌, IfErr}

-- of a fault that can't be
pub no_err : {A E : Type 0} (r : Result A E) (P : E → Type 0) → ((e : E) → P e) → IfErr r P
no_err (Ok x) P h = tt
no_err (Err e) P h = h e

-- a test that fails where it can't
pub never : {P : Type 0} (b : Bool) → (IsTrue b ↔ P) → b ≡ false → P → ⊥
never b says failed holds = true≢false (sym (says.1 holds) ∙ failed)
