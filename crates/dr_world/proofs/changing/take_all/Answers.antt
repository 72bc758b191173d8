use Rattle.std.proofs.Common.{refl, sym}
use Rattle.dr_world.proofs.Adopting.{so_far, took_all, took_next}
use Rattle.dr_world.proofs.changing.take_all.Goals as goal

pub loop-name-init : goal.loop-name-init
loop-name-init g c = refl

pub loop-name-preserved : goal.loop-name-preserved
loop-name-preserved g c = took_next c.args.next.now.plan c.args.next.now.certificate
    c.args.names.now c.loop-name.name-index c.name-item.result c.args.nodes.now c.loop-name.nodes
    c.take_at.new.nodes c.loop-name.invariant c.in_ok-take_at.ensures.takes
    (sym
    (so_far c.args.names.now c.loop-name.name-index c.name-item.result c.loop-name-test.true
    c.name-item.is))

pub returns-clause-take : goal.returns-clause-take
returns-clause-take g c = took_all c.args.next.now.plan c.args.next.now.certificate c.args.names.now
    c.loop-name.name-index c.args.nodes.now c.loop-name.nodes c.loop-name-test.false
    c.loop-name.invariant
