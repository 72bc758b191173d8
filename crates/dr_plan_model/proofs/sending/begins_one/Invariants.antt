use Rattle.std.proofs.Common.{ℕ, ◌<◌, get_or, []}
use Rattle.dr_base.specs.Texts.{Begins}
use Rattle.dr_plan_model.proofs.sending.begins_one.Given as goal

abbrev pub invariant-loop-prefix : goal.invariant-loop-prefix
invariant-loop-prefix l = (k : ℕ) → k < l.prefix-index → Begins (get_or l.prefixes k []) l.value → ⊥
