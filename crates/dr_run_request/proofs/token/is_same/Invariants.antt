use Rattle.std.proofs.Common.{◌≡◌, ◌↔◌, ℕ, ◌<◌, IsTrue, get_or}
use Rattle.dr_run_request.proofs.token.is_same.Given as goal

abbrev pub invariant-loop-i : goal.invariant-loop-i
invariant-loop-i l =
    IsTrue l.is_same ↔ ((k : ℕ) → k < l.i → get_or l.given k 0 ≡ get_or l.right k 0)
