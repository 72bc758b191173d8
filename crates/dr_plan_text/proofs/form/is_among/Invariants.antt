use Rattle.std.proofs.Common.{◌≡◌, ℕ, ◌<◌, map, get_or, []}
use Rattle.dr_plan_text.proofs.form.is_among.Given as goal

abbrev pub invariant-loop-k : goal.invariant-loop-k
invariant-loop-k l = (k : ℕ) → k < l.k-index → get_or (map (λ x. x.now) l.known) k [] ≡ l.key → ⊥
