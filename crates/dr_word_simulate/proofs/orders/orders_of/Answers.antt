use Rattle.std.proofs.Common.{◌≡◌, ◌∙◌, length, rules}
use Rattle.std.specs.Vec.Iter.{into_iter_items}
use Rattle.dr_word_simulate.proofs.Doing.{comes_to_end, ordered_more, goes_on, stops}
use Rattle.dr_word_simulate.proofs.orders.orders_of.Goals as goal

pub loop-act-preserved : goal.loop-act-preserved
loop-act-preserved g c = (
  goes_on c.args.acts.items c.loop-act.yielded c.in-Some.act (into_iter_items c.loop-act.act-iterator) (into_iter_items c.next.new.self) c.loop-act.invariant.0 c.in-Some.ensures.steps.0,
  ordered_more (g.F.Files.holds c.args.files.now) c.loop-act.yielded c.in-Some.act c.loop-act.orders.items c.add_order.new.orders.items c.loop-act.invariant.1 c.in-Ok.ensures,
)

pub returns : goal.returns
returns g c =
    let none : length (into_iter_items c.loop-act.act-iterator) ≡ 0 = search rules in
    let all : c.args.acts.items ≡ c.loop-act.yielded = comes_to_end c.args.acts.items c.loop-act.yielded (into_iter_items c.loop-act.act-iterator) c.loop-act.invariant.0 none in
    rw all c.loop-act.invariant.1

pub returns-in-Err : goal.returns-in-Err
returns-in-Err g c =
    stops (g.F.Files.holds c.args.files.now) c.args.acts.items c.loop-act.yielded c.in-Some.act (into_iter_items c.loop-act.act-iterator) (into_iter_items c.next.new.self) c.loop-act.orders.items c.len-place.result c.in-Err.fault
    c.loop-act.invariant.0 c.in-Some.ensures.steps.0 c.loop-act.invariant.1 (c.len-place.ensures ∙ c.loop-act.orders.ok.0) c.in-Err.ensures
