use Rattle.std.proofs.Common.{◌≡◌, ◌++◌, take, map}
use Rattle.dr_plan_expand.specs.Meanings.{flow_of}
use Rattle.dr_plan_expand.proofs.meant.add_flows.Given as goal

abbrev pub invariant-loop-to : goal.invariant-loop-to
invariant-loop-to l = l.out.items ≡ l.initial.out.items ++ map (flow_of l.flow l.sent.classes.now l.sent.syntaxes.now l.at) (take l.to-index l.tos)
