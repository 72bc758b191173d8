-- The moment of a try, from when on the row is due again.
use Rattle.std.proofs.Common.{◌≡◌, ◌+◌, ◌-◌, ◌*◌, ◌^◌, ◌≤◌, ◌==◌, ℕ, zero, suc, Bool, cond, min, Option, None, Some, ap, ◌∙◌, arith}
use Rattle.std.proofs.Math.Dec.{eqb-suc-zero}
use Rattle.dr_run_answer.specs.Laws.{TriesAreTold}

back : (now wait : ℕ) → (now + wait) - wait ≡ now
back now wait = omega arith

pub tries_are_told : TriesAreTold
tries_are_told zero now some = absurd (omega (arith, some))
tries_are_told (suc k) now some =
    let wait : ℕ = 1000 * min 300 (2 ^ (suc k - 1)) in
    ap (λ (b : Bool). cond b None (Some ((now + wait) - wait))) (eqb-suc-zero k) ∙ ap (λ (n : ℕ). Some n) (back now wait)
