use Rattle.std.proofs.Common.{◌≡◌, ◌+◌, ◌∷◌, ◌++◌, [], get_or, length, take, sym, ap, ◌∙◌, rules}
use Rattle.std.proofs.Common.{arith}
use Rattle.std.specs.Vec.Iter.{into_iter_items}
use Rattle.std.proofs.lemmas.List.{take_more}
use Rattle.dr_base.specs.Texts.{Text}
use Rattle.dr_world.specs.Founding.{IsUnfit, SomeIsUnfit}
use Rattle.dr_world.proofs.Adopting.{joined_next}
use Rattle.dr_world.proofs.Founded.{next_seated, passed_on, some_is_unfit}
use Rattle.dr_world.proofs.world.adopting.join_all.Goals as goal

pub loop-ledger-preserved : goal.loop-ledger-preserved
loop-ledger-preserved g c =
    let left : into_iter_items c.loop-ledger.ledger-iterator
    ≡ c.in-Some.ledger ∷ into_iter_items c.next.new.self = search rules in
    let count = ap length left in
    let name = c.index-names-place.result in
    let names = c.args.names.now in
    let place = c.loop-ledger.place in
    let here : get_or names place name ≡ name = sym c.index-names-place.is in
    let more : take (place + 1) names ≡ take place names ++ name ∷ [] =
    take_more names place name (omega arith) ∙ ap (λ (x : Text). take place names ++ x ∷ []) here in (
      joined_next c.args.next.now.plan c.args.next.now.certificate names place name c.args.nodes.now
          c.loop-ledger.nodes c.seat.new.nodes c.loop-ledger.invariant.0 c.in_ok-seat.ensures.founds
          more,
      omega arith,
      next_seated c.args.ledgers.items c.loop-ledger.invariant.2 c.in-Some.ledger
          (into_iter_items c.next.new.self) left,
    )

pub returns-in_err-seat-clause-unfit : goal.returns-in_err-seat-clause-unfit
returns-in_err-seat-clause-unfit g c =
    let left : into_iter_items c.loop-ledger.ledger-iterator
    ≡ c.in-Some.ledger ∷ into_iter_items c.next.new.self = search rules in
    let count = ap length left in
    let plan = c.args.next.now.plan in
    let own = c.args.next.now.certificate in
    let names = c.args.names.now in
    let name = c.index-names-place.result in
    let unfit = IsUnfit g.L.Ledger.trusts g.L.Ledger.stands g.L.Ledger.book g.L.Ledger.site
    g.L.Ledger.failed in
    let why : SomeIsUnfit unfit plan own names c.args.ledgers.items c.in_err-seat.field-0.0 =
    some_is_unfit unfit plan own names c.args.ledgers.items c.loop-ledger.invariant.2
    c.in-Some.ledger (into_iter_items c.next.new.self) left name (sym c.index-names-place.is)
    (omega arith) c.in_err-seat.field-0.0 c.in_err-seat.ensures.unfit in
    passed_on c.from_residual.result c.in_err-seat.field-0.0
    (SomeIsUnfit unfit plan own names c.args.ledgers.items) c.from_residual.ensures.1 why
