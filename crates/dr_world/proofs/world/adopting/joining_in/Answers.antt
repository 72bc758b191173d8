use Rattle.std.proofs.Common.{List, sym, subst}
use Rattle.dr_base.specs.Texts.{Text}
use Rattle.dr_plan_model.specs.Plans.{AreNames}
use Rattle.dr_world.proofs.Adopting.{joins_all, joins_on}
use Rattle.dr_world.proofs.Joining.{absent_all, absent_more}
use Rattle.dr_world.proofs.world.adopting.joining_in.Goals as goal

pub loop-name-preserved : goal.loop-name-preserved
loop-name-preserved g c = (
  joins_on c.args.nodes.now c.as_slice-name-items.result.now
      c.loop-name.names.items c.loop-name.name-index c.name-item.result c.loop-name-test.true
      c.name-item.is c.loop-name.invariant.0 c.add_absent.new.names.items
      c.in_ok-add_absent.ensures,
  absent_more c.args.nodes.now c.as_slice-name-items.result.now c.loop-name.names.items
      c.add_absent.new.names.items c.loop-name.name-index c.name-item.result
      c.loop-name-test.true c.name-item.is c.loop-name.invariant.1 c.in_ok-add_absent.ensures,
)

pub returns-clause-joining : goal.returns-clause-joining
returns-clause-joining g c = joins_all c.args.nodes.now c.as_slice-name-items.result.now c.args.plan.now
    c.loop-name.names.items c.loop-name.name-index
    (subst
    (λ (ns : List Text). AreNames c.args.plan.now ns) (sym c.as_slice-name-items.ensures.value)
    c.in_ok-all.ensures) c.loop-name-test.false c.loop-name.invariant.0

pub returns-clause-order : goal.returns-clause-order
returns-clause-order g c = absent_all c.args.nodes.now c.args.plan.now
    c.as_slice-name-items.result.now c.loop-name.names.items c.loop-name.name-index
    (subst
    (λ (ns : List Text). AreNames c.args.plan.now ns) (sym c.as_slice-name-items.ensures.value)
    c.in_ok-all.ensures) c.loop-name-test.false c.loop-name.invariant.1
