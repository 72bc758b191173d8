use Rattle.std.proofs.Common.{refl}
use Rattle.dr_route.specs.Names.{HasName}
use Rattle.dr_plan_model.specs.Naming.{named_by_pattern, named_by_except}
use Rattle.dr_plan_model.proofs.Gathered.{gathered}
use Rattle.dr_plan_model.proofs.literals.add_rule.Goals as goal

pub returns : goal.returns
returns c =
    gathered (HasName c.args.names.now) (HasName c.add_names.new.names) (HasName c.add_names-2.new.names)
    (named_by_pattern c.args.attribute c.args.rule.now) (named_by_except c.args.attribute c.args.rule.now) _ refl
    (rw c.in_except.ensures at c.in_ok-add_names-2.ensures) (rw c.in_pattern.ensures at c.in_ok-add_names.ensures)
