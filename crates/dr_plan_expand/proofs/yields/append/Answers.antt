use Rattle.std.proofs.Common.{◌∙◌, ap, ◌++◌}
use Rattle.dr_plan_expand.proofs.Yielded.{one_moved, all_moved, no_items}
use Rattle.dr_plan_expand.proofs.yields.append.Goals as goal

pub loop-thing-init : goal.loop-thing-init
loop-thing-init g c = ap (λ t. c.args.out.now.items ++ t) (c.into_iter-thing-iterator.ensures.into_iter_gives.0 ∙ c.into_vec-thing-items.ensures)

pub loop-thing-preserved : goal.loop-thing-preserved
loop-thing-preserved g c = rw c.in_ok-push.ensures.items (one_moved c.loop-thing.out.items _ _ _ c.in-Some.thing c.in-Some.ensures.steps.0 c.loop-thing.invariant)

pub returns : goal.returns
returns g c = all_moved c.loop-thing.out.items _ _ (no_items _ _ c.loop-thing.thing-iterator.rest.ok.0 c.in-None.ensures.steps.0) c.loop-thing.invariant
