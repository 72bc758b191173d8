use Rattle.std.proofs.Common.{◌≡◌, take, arith, List}
use Rattle.std.proofs.lemmas.List.{take_all}
use Rattle.std.specs.Prelude.{flat_map}
use Rattle.dr_base.specs.Texts.{Text}
use Rattle.dr_route.specs.Names.{HasName}
use Rattle.dr_route.specs.declared.rule.Rule.{Rule}
use Rattle.dr_plan_model.specs.Naming.{named_by_rule}
use Rattle.dr_plan_model.proofs.Gathered.{flat_map-one_more, gathered, gathered_none}
use Rattle.dr_plan_model.proofs.literals.add_rules.Goals as goal

pub loop-rule-init : goal.loop-rule-init
loop-rule-init c = gathered_none (HasName c.args.names.now)

pub loop-rule-preserved : goal.loop-rule-preserved
loop-rule-preserved c =
    let f : Rule → List Text = λ x. named_by_rule c.args.attribute x in
    gathered (HasName c.args.names.now) (HasName c.loop-rule.names) (HasName c.add_rule.new.names)
    (flat_map f (take c.loop-rule.rule-index c.args.rules.now)) (f c.rule-item.result) _
    (flat_map-one_more f c.args.rules.now c.loop-rule.rule-index c.rule-item.result c.loop-rule-test.true c.rule-item.is)
    c.in_ok-add_rule.ensures c.loop-rule.invariant

pub returns : goal.returns
returns c =
    let all : take c.loop-rule.rule-index c.args.rules.now ≡ c.args.rules.now = take_all _ _ (omega arith) in
    λ t. rw all at (c.loop-rule.invariant t)
