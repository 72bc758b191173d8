use Rattle.std.proofs.Common.{◌∙◌}
use Rattle.dr_plan_expand.specs.Spelling.{rule_text}
use Rattle.dr_plan_expand.proofs.Grown.{grown}
use Rattle.dr_plan_expand.proofs.spell.add_rules.Goals as goal

pub loop-rule-preserved : goal.loop-rule-preserved
loop-rule-preserved c =
    grown rule_text c.args.rules.now c.loop-rule.rule-index c.rule-item.result c.args.out.now.items c.loop-rule.out.items _ _ c.loop-rule-test.true c.rule-item.is c.loop-rule.invariant
    (c.as_slice.ensures.value ∙ c.in_ok-text.ensures) c.in_ok-extend_from_slice.ensures.items
