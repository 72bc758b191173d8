use Rattle.std.proofs.Common.{◌≡◌, ◌+◌, List, ◌∷◌, ◌++◌, [], get_or, length, take, sym, subst, ap, ◌∙◌, rules, arith}
use Rattle.std.specs.Vec.Iter.{into_iter_items}
use Rattle.std.proofs.lemmas.List.{take_more}
use Rattle.dr_base.specs.Texts.{Text}
use Rattle.dr_world.specs.Founding.{AreFounded, IsUnfit, SomeIsUnfit}
use Rattle.dr_world.proofs.Founded.{founded_more, next_seated, passed_on, some_is_unfit}
use Rattle.dr_world.proofs.founding.seat_all.Goals as goal

pub loop-ledger-preserved : goal.loop-ledger-preserved
loop-ledger-preserved g c =
    let left : into_iter_items c.loop-ledger.ledger-iterator ≡ c.in-Some.ledger ∷ into_iter_items c.next.new.self = search rules in
    let count = ap length left in
    let name = c.index-names-place.result in
    let names = c.args.names.now in
    let place = c.loop-ledger.place in
    let here : get_or names place name ≡ name = sym c.index-names-place.is in
    let more : take (place + 1) names ≡ take place names ++ name ∷ [] = take_more names place name (omega arith) ∙ ap (λ (x : Text). take place names ++ x ∷ []) here in
    let P : List Text → Type 0 = λ ns. AreFounded c.args.sealed.now.plan c.args.sealed.now.certificate ns c.seat.new.nodes in (
      subst P (sym more) (founded_more c.args.sealed.now.plan c.args.sealed.now.certificate c.loop-ledger.nodes c.seat.new.nodes name c.in_ok-seat.ensures.founds (take place names) c.loop-ledger.invariant.0),
      omega arith,
      next_seated c.args.ledgers.items c.loop-ledger.invariant.2 c.in-Some.ledger (into_iter_items c.next.new.self) left,
    )

pub returns-in_err-seat-clause-unfit : goal.returns-in_err-seat-clause-unfit
returns-in_err-seat-clause-unfit g c =
    let left : into_iter_items c.loop-ledger.ledger-iterator ≡ c.in-Some.ledger ∷ into_iter_items c.next.new.self = search rules in
    let count = ap length left in
    let names = c.args.names.now in
    let name = c.index-names-place.result in
    let unfit = IsUnfit g.L.Ledger.trusts g.L.Ledger.stands g.L.Ledger.book g.L.Ledger.site g.L.Ledger.failed in
    let why : SomeIsUnfit unfit c.args.sealed.now.plan c.args.sealed.now.certificate names c.args.ledgers.items c.in_err-seat.field-0.0 =
    some_is_unfit unfit c.args.sealed.now.plan c.args.sealed.now.certificate names c.args.ledgers.items c.loop-ledger.invariant.2 c.in-Some.ledger (into_iter_items c.next.new.self) left
    name (sym c.index-names-place.is) (omega arith) c.in_err-seat.field-0.0 c.in_err-seat.ensures.unfit in
    passed_on c.from_residual.result c.in_err-seat.field-0.0 (SomeIsUnfit unfit c.args.sealed.now.plan c.args.sealed.now.certificate names c.args.ledgers.items) c.from_residual.ensures.1 why
