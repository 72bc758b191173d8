use Rattle.std.specs.Prelude.{All}
use Rattle.std.specs.Vec.Iter.{into_iter_items}
use Rattle.dr_plan_text.specs.declared.words.FlowText.{FlowText}
use Rattle.dr_base.specs.Syntaxes.{IsSyntax}
use Rattle.dr_plan_core.specs.Spelling.{written_flow}
use Rattle.dr_plan_core.proofs.Typing.{Left}
use Rattle.dr_plan_core.proofs.typed.flows_of.Given as goal

abbrev pub invariant-loop-flow : goal.invariant-loop-flow
invariant-loop-flow l = Left written_flow (λ (flow : FlowText). All IsSyntax flow.syntaxes) l.fn.flows l.typed.items (into_iter_items l.flow-iterator)
