use Rattle.std.proofs.Common.{◌≡◌, Contains, take}
use Rattle.std.specs.Prelude.{All}
use Rattle.dr_base.specs.Texts.{Text}
use Rattle.dr_route.specs.Names.{HasName}
use Rattle.dr_plan_model.specs.declared.plan.Flow.{Flow}
use Rattle.dr_cert_diff.specs.Entering.{Grows}
use Rattle.dr_cert_diff.proofs.entries.add_classes.Given as goal

-- the classes of the flows so far are there
abbrev pub invariant-loop-flow : goal.invariant-loop-flow
invariant-loop-flow l = record {
  kept : Grows l.fn.names l.names;
  all : All (λ (flow : Flow). flow.at ≡ l.fn.site → (t : Text) → Contains flow.classes t → HasName l.names t) (take l.flow-index l.fn.flows);
}
