use Rattle.std.proofs.Common.{◌≡◌, ℕ, ◌<◌, length, Contains, Some}
use Rattle.std.specs.Prelude.{slice_get}
use Rattle.dr_plan_model.specs.declared.plan.Flow.{Flow}
use Rattle.dr_route.specs.declared.cell.OwnedCell.{OwnedCell}
use Rattle.dr_plan_entries.specs.Entering.{TakesIn}
use Rattle.dr_plan_entries.proofs.narrow.places_of.Given as goal

abbrev pub invariant-loop-place : goal.invariant-loop-place
invariant-loop-place l = record {
  below : (k : ℕ) → Contains l.places.items k → k < length l.flows;
  whole : (k : ℕ) (flow : Flow) (cell : OwnedCell) → k < l.place → slice_get l.flows k ≡ Some flow → TakesIn flow cell → Contains l.places.items k;
}
