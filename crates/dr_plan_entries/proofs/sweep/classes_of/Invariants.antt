use Rattle.std.proofs.Common.{◌≡◌, ℕ, take, Contains, Some}
use Rattle.std.specs.Prelude.{slice_get}
use Rattle.dr_base.specs.Texts.{Text}
use Rattle.dr_route.specs.Names.{HasName}
use Rattle.dr_plan_model.specs.declared.plan.Flow.{Flow}
use Rattle.dr_plan_entries.proofs.sweep.classes_of.Given as goal

abbrev pub invariant-loop-place : goal.invariant-loop-place
invariant-loop-place l = (k : ℕ) (flow : Flow) (class : Text) → Contains (take l.place-index l.among) k → slice_get l.flows k ≡ Some flow → Contains flow.classes class → HasName l.names class
