use Rattle.std.proofs.Common.{ℕ, ◌+◌, ◌^◌, ◌<◌, ◌≤◌, length, arith, refl, sym, ap, ◌∙◌, Fits, w64}
use Rattle.std.specs.Map.Iter.{deref_pair}
use Rattle.std.proofs.lemmas.Map.Iter.{iter_turn, iter_end}
use Rattle.dr_node.specs.Sides.{others}
use Rattle.dr_node.proofs.Mapped.{all_counted, at_most, counted, passed, so_far, room}
use Rattle.dr_node.proofs.links.Links.others.Goals as goal

pub loop-number-init : goal.loop-number-init
loop-number-init c = refl

pub overflow_add-count : goal.overflow_add-count
overflow_add-count c =
    let turn = iter_turn deref_pair c.self.inside.sides.entries c.loop-number.yielded c.into_iter-number-iterator.result c.loop-number.number-iterator c.next.new.self c.next.result
    (c.into_iter-number-iterator.ensures.into_iter_gives ∙ c.iter-number-items.ensures.rest) c.loop-number.yielded_by (c.in-Some.number, c.in-Some.side) c.in-Some.is c.next.ensures.steps in
    room c.args.link c.loop-number.yielded c.loop-number.count (length c.self.inside.sides.entries) c.loop-number.invariant turn.0 c.iter-number-items.ensures.fits

pub loop-number-preserved-then-is_other : goal.loop-number-preserved-then-is_other
loop-number-preserved-then-is_other c = counted c.args.link c.loop-number.yielded (c.in-Some.number, c.in-Some.side) c.loop-number.count c.loop-number.invariant (sym c.is_other.ensures ∙ c.if-is_other.true)

pub loop-number-preserved : goal.loop-number-preserved
loop-number-preserved c = passed c.args.link c.loop-number.yielded (c.in-Some.number, c.in-Some.side) c.loop-number.count c.loop-number.invariant (sym c.is_other.ensures ∙ c.if-is_other.false)

pub returns : goal.returns
returns c =
    let end = iter_end deref_pair c.self.inside.sides.entries c.loop-number.yielded c.into_iter-number-iterator.result c.loop-number.number-iterator c.next.new.self c.next.result
    (c.into_iter-number-iterator.ensures.into_iter_gives ∙ c.iter-number-items.ensures.rest) c.loop-number.yielded_by c.in-None.is c.next.ensures.steps in
    c.loop-number.invariant ∙ (all_counted c.args.link c.self.inside.sides c.loop-number.yielded c.self.invariant end.0 ∙ ap (others c.args.link) c.self.view_is)
