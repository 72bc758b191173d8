use Rattle.std.proofs.Common.{◌∙◌}
use Rattle.std.specs.Prelude.{All}
use Rattle.dr_plan_text.specs.declared.words.FlowText.{FlowText}
use Rattle.dr_base.specs.Syntaxes.{IsSyntax}
use Rattle.dr_plan_core.specs.Spelling.{written_flow}
use Rattle.dr_plan_core.proofs.Typing.{all_left, next_known, one_less, none_left, no_items}
use Rattle.dr_plan_core.proofs.typed.flows_of.Goals as goal

pub loop-flow-init : goal.loop-flow-init
loop-flow-init c = all_left written_flow (λ (flow : FlowText). All IsSyntax flow.syntaxes) c.args.flows _ _ c.new-typed.ensures.items (c.into_iter-flow-iterator.ensures.into_iter_gives.0 ∙ c.into_vec-flow-items.ensures) c.requires

pub loop-flow-preserved : goal.loop-flow-preserved
loop-flow-preserved c =
    rw c.in_ok-push.ensures.items (one_less written_flow (λ (flow : FlowText). All IsSyntax flow.syntaxes) c.args.flows c.loop-flow.typed.items _ _ c.in_ok-flow_of.field-0 c.in-Some.flow c.loop-flow.invariant c.in-Some.ensures.steps.0 c.in_ok-flow_of.ensures)

pub flow_of-requires : goal.flow_of-requires
flow_of-requires c = next_known written_flow (λ (flow : FlowText). All IsSyntax flow.syntaxes) c.args.flows c.loop-flow.typed.items _ _ c.in-Some.flow c.loop-flow.invariant c.in-Some.ensures.steps.0

pub returns-clause-flows : goal.returns-clause-flows
returns-clause-flows c = rw c.from_vec.ensures (none_left written_flow (λ (flow : FlowText). All IsSyntax flow.syntaxes) c.args.flows c.loop-flow.typed.items _ c.loop-flow.invariant (no_items _ _ c.loop-flow.flow-iterator.rest.ok.0 c.in-None.ensures.steps.0))
