use Rattle.std.proofs.Common.{refl, sym, get_or}
use Rattle.std.proofs.lemmas.List.{take_more}
use Rattle.dr_world.proofs.Restarting.{heard_next, heard_all}
use Rattle.dr_world.proofs.world.World.end_each.Goals as goal

pub loop-link-init : goal.loop-link-init
loop-link-init g c = refl

pub loop-link-preserved : goal.loop-link-preserved
loop-link-preserved g c =
    heard_next c.args.name.now c.args.links.now c.loop-link.link-index (get_or c.args.links.now c.loop-link.link-index 0) c.args.self.now c.loop-link.self c.end_far.new.self c.loop-link.invariant c.in_ok-end_far.ensures
    (sym (take_more c.args.links.now c.loop-link.link-index 0 c.loop-link-test.true))

pub returns : goal.returns
returns g c = heard_all c.args.name.now c.args.links.now c.loop-link.link-index c.args.self.now c.loop-link.self c.loop-link-test.false c.loop-link.invariant
