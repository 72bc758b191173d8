use Rattle.std.proofs.Common.{◌≡◌, ◌++◌, take}
use Rattle.std.specs.Prelude.{flat_map}
use Rattle.dr_plan_expand.specs.Spelling.{flow_text}
use Rattle.dr_plan_expand.proofs.spell.add_flows.Given as goal

abbrev pub invariant-loop-flow : goal.invariant-loop-flow
invariant-loop-flow l = l.out.items ≡ l.initial.out.items ++ flat_map flow_text (take l.flow-index l.flows)
