use Rattle.std.proofs.Common.{◌≡◌, ◌++◌, ◌||◌, drop}
use Rattle.dr_store_audit.specs.Goals.{keep_by, to_by}
use Rattle.dr_store_audit.proofs.goals.targets_by.Given as goal

abbrev pub invariant-loop-goal : goal.invariant-loop-goal
invariant-loop-goal l = (l.to ++ to_by (drop l.goal-index l.goals) ≡ to_by l.goals) × ((l.keep || keep_by (drop l.goal-index l.goals)) ≡ keep_by l.goals)
