use Rattle.std.proofs.Common.{◌≡◌, take}
use Rattle.dr_cert_lint.specs.Findings.{IsRuleText}
use Rattle.dr_cert_lint.proofs.Numbered.{AreAdded}
use Rattle.dr_cert_lint.proofs.lint.add_rules.Given as goal

abbrev pub invariant-loop-rule : goal.invariant-loop-rule
invariant-loop-rule l = (l.number ≡ l.rule-index) × AreAdded (IsRuleText l.fn.sealed.plan l.fn.node) (take l.rule-index l.fn.node.rules) l.initial.out.items l.out.items
