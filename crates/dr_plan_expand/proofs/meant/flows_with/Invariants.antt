use Rattle.std.proofs.Common.{◌≡◌, take, map}
use Rattle.std.specs.Prelude.{flat_map}
use Rattle.dr_plan_expand.specs.Meanings.{flow_of}
use Rattle.dr_plan_expand.proofs.meant.flows_with.Given as goal

abbrev pub invariant-loop-at : goal.invariant-loop-at
invariant-loop-at l = l.flows.items ≡ flat_map (λ at. map (flow_of l.flow l.sent.classes.now l.sent.syntaxes.now at) l.tos) (take l.at-index l.ats)
