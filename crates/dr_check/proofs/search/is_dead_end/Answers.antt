use Rattle.std.proofs.Common.{inr, sym, ◌∙◌}
use Rattle.dr_check.proofs.Trails.{some_name}
use Rattle.dr_check.proofs.search.is_dead_end.Goals as goal

pub returns-else-is_empty-clause-alive : goal.returns-else-is_empty-clause-alive
returns-else-is_empty-clause-alive c = λ h. inr (some_name c.args.targets.now.to (sym c.is_empty.ensures ∙ h))
