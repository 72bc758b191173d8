use Rattle.std.proofs.Common.{[]}
use Rattle.dr_store_sealed.specs.declared.seal.Seal.{Seal}
use Rattle.dr_store_past.proofs.Noting.{all_looked, begun_at, looked_at}
use Rattle.dr_store_past.proofs.places.place_before.Goals as goal

pub loop-place-init : goal.loop-place-init
loop-place-init c = begun_at c.args.count c.first-found.result c.first-found.ensures

pub loop-place-preserved : goal.loop-place-preserved
loop-place-preserved c =
    let empty : Seal = record { count = 0; chain = []; number = 0; offset = 0 } in
    looked_at c.loop-place.place-index c.args.places.now c.args.count c.loop-place.found c.later_of-found.result empty
    c.loop-place-test.true c.loop-place.invariant c.later_of-found.ensures.later c.later_of-found.ensures.other

pub returns : goal.returns
returns c = all_looked c.loop-place.place-index c.args.places.now c.args.count c.loop-place.found c.loop-place-test.false c.loop-place.invariant
