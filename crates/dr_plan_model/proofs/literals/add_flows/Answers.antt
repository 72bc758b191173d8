use Rattle.std.proofs.Common.{◌≡◌, take, arith, List}
use Rattle.std.proofs.lemmas.List.{take_all}
use Rattle.std.specs.Prelude.{flat_map}
use Rattle.dr_base.specs.Texts.{Text}
use Rattle.dr_route.specs.Names.{HasName}
use Rattle.dr_plan_model.specs.declared.plan.Flow.{Flow}
use Rattle.dr_plan_model.specs.Naming.{named_by_flow}
use Rattle.dr_plan_model.proofs.Gathered.{flat_map-one_more, gathered, gathered_none}
use Rattle.dr_plan_model.proofs.literals.add_flows.Goals as goal

pub loop-flow-init : goal.loop-flow-init
loop-flow-init c = gathered_none (HasName c.args.names.now)

pub loop-flow-preserved : goal.loop-flow-preserved
loop-flow-preserved c =
    let f : Flow → List Text = λ x. named_by_flow c.args.attribute x in
    gathered (HasName c.args.names.now) (HasName c.loop-flow.names) (HasName c.add_names.new.names)
    (flat_map f (take c.loop-flow.flow-index c.args.flows.now)) (f c.flow-item.result) _
    (flat_map-one_more f c.args.flows.now c.loop-flow.flow-index c.flow-item.result c.loop-flow-test.true c.flow-item.is)
    (rw c.in_flow.ensures at c.in_ok-add_names.ensures) c.loop-flow.invariant

pub returns : goal.returns
returns c =
    let all : take c.loop-flow.flow-index c.args.flows.now ≡ c.args.flows.now = take_all _ _ (omega arith) in
    λ t. rw all at (c.loop-flow.invariant t)
