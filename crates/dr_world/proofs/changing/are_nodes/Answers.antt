use Rattle.std.proofs.Common.{refl, sym}
use Rattle.std.proofs.lemmas.Bool.{false≢true}
use Rattle.dr_world.proofs.Adopting.{nodes_all, nodes_more, nodes_none}
use Rattle.dr_world.proofs.changing.are_nodes.Goals as goal

pub loop-name-init : goal.loop-name-init
loop-name-init c = nodes_none c.args.plan.now c.args.names.now

pub returns-in_default : goal.returns-in_default
returns-in_default c = (
  λ t. absurd (false≢true t),
  λ each. absurd
      (let h =
      each c.name-item.result (c.loop-name.name-index, c.loop-name-test.true, sym c.name-item.is) in
      c.in_default.ensures h.0 h.1),
)

pub loop-name-preserved : goal.loop-name-preserved
loop-name-preserved c = nodes_more c.args.plan.now c.args.names.now c.loop-name.name-index
    c.name-item.result c.loop-name-test.true c.name-item.is c.loop-name.invariant
    (c.in-Some.field-0.now, (c.in-Some.ensures).0)

pub returns : goal.returns
returns c = (
  λ t. nodes_all c.args.plan.now c.args.names.now c.loop-name.name-index
      c.loop-name-test.false c.loop-name.invariant,
  λ each. refl,
)
