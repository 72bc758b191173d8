use Rattle.dr_world_script.proofs.Splitting.{one_more, last_one}
use Rattle.dr_world_script.proofs.fields.parts_of.Goals as goal

pub loop-part-preserved : goal.loop-part-preserved
loop-part-preserved c =
    rw (c.in_ok-push.ensures.items) (one_more c.args.mark c.args.text.now c.loop-part.parts.items c.loop-part.rest.now c.in-Some.part c.in-Some.behind.now c.loop-part.invariant c.in-Some.ensures)

pub returns : goal.returns
returns c =
    rw (c.in_ok-push-2.ensures.items) (last_one c.args.mark c.args.text.now c.loop-part.parts.items c.loop-part.rest c.loop-part.invariant c.in_default.ensures)
