use Rattle.std.proofs.Common.{Option, refl, subst}
use Rattle.dr_ledger.specs.Pairs.{Pair}
use Rattle.dr_world.specs.Adopted.{LooksAt}
use Rattle.dr_world.proofs.Adopting.{fit_all, fit_more, fit_none, found_unfit}
use Rattle.dr_world.proofs.Listed.{nodes_same}
use Rattle.dr_world.proofs.changing.look_at_all.Goals as goal

pub loop-name-init : goal.loop-name-init
loop-name-init g c = (
  nodes_same c.args.nodes.now c.args.nodes.now refl,
  λ all. fit_none c.args.next.now.plan c.args.nodes.now c.args.names.now,
)

pub loop-name-preserved : goal.loop-name-preserved
loop-name-preserved g c =
    let look = subst
    (λ (f : Option Pair).
    LooksAt c.args.next.now.plan c.name-item.result c.loop-name.nodes f c.look_at.new.nodes)
    c.in-None.is c.in_ok-look_at.ensures.looks in
    fit_more c.args.next.now.plan c.args.nodes.now c.loop-name.nodes c.look_at.new.nodes
    c.args.names.now c.loop-name.name-index c.name-item.result c.loop-name-test.true c.name-item.is
    c.loop-name.invariant look

pub returns-in-Some-clause-finds : goal.returns-in-Some-clause-finds
returns-in-Some-clause-finds g c =
    let look = subst
    (λ (f : Option Pair).
    LooksAt c.args.next.now.plan c.name-item.result c.loop-name.nodes f c.look_at.new.nodes)
    c.in-Some.is c.in_ok-look_at.ensures.looks in
    found_unfit c.args.next.now.plan c.args.nodes.now c.loop-name.nodes c.look_at.new.nodes
    c.args.names.now c.loop-name.name-index c.name-item.result c.loop-name-test.true c.name-item.is
    c.loop-name.invariant c.in-Some.uid c.in-Some.dest c.in_ok-node-in-Some.node
    c.in_ok-node-in-Some.ensures look

pub returns-clause-finds : goal.returns-clause-finds
returns-clause-finds g c = fit_all c.args.next.now.plan c.args.nodes.now c.loop-name.nodes c.args.names.now
    c.loop-name.name-index c.loop-name-test.false c.loop-name.invariant
