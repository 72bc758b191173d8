-- What contracts see of a plan.
use Rattle.std.specs.Prelude.{ℕ, List}
use Rattle.dr_plan_model.specs.declared.plan.Format.{Format}
use Rattle.dr_plan_model.specs.declared.plan.Node.{Node}
use Rattle.dr_plan_model.specs.declared.plan.Flow.{Flow}

-- a plan: the format of its text, its nodes, its flows, and the SHA-256 of its text
pub record Network : Type 0 where
  pub format : Format
  pub nodes : List Node
  pub flows : List Flow
  pub digest : List ℕ
