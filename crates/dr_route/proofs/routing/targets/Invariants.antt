use Rattle.std.proofs.Common.{◌↔◌, ◌⊎◌, IsTrue, drop}
use Rattle.dr_base.specs.Texts.{Text}
use Rattle.dr_route.specs.Names.{HasName}
use Rattle.dr_route.specs.Routes.{SendsBy, KeepsBy}
use Rattle.dr_route.proofs.routing.targets.Given as goal

abbrev pub invariant-loop-rule : goal.invariant-loop-rule
invariant-loop-rule l = record {
  to : (m : Text) → (HasName l.to m ⊎ SendsBy (drop l.rule-index l.rules) l.caller l.key m) ↔ SendsBy l.rules l.caller l.key m;
  keep : (IsTrue l.keep ⊎ KeepsBy (drop l.rule-index l.rules) l.caller l.key) ↔ KeepsBy l.rules l.caller l.key;
}
