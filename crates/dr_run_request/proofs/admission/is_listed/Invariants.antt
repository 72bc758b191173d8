use Rattle.std.proofs.Common.{◌≡◌, ℕ, ◌<◌, [], get_or}
use Rattle.dr_run_request.proofs.admission.is_listed.Given as goal

abbrev pub invariant-loop-listed : goal.invariant-loop-listed
invariant-loop-listed l = (k : ℕ) → k < l.listed-index → get_or l.hosts k [] ≡ l.host → ⊥
