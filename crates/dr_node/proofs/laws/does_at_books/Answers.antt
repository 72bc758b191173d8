use Rattle.std.proofs.Common.{refl}
use Rattle.dr_node.proofs.Keeping.{input_stays, push_stays}
use Rattle.dr_node.proofs.Booked.{input_booked, push_booked}
use Rattle.dr_node.proofs.laws.does_at_books.Goals as goal

pub returns-clause-input : goal.returns-clause-input
returns-clause-input g c =
    let l = g.L.Ledger in
    λ what now link old new s t result h stood. input_booked l.site l.book l.bodies l.armed l.trusts l.stands l.failed (l.site s.ledger) what now link old new s t result h
    (stood, input_stays l.site l.book l.bodies l.armed l.trusts l.stands l.failed what now link old new s t result h)

pub returns-clause-push : goal.returns-clause-push
returns-clause-push g c =
    let l = g.L.Ledger in
    λ now link old new s t result h stood. push_booked l.site l.book l.bodies l.armed l.trusts l.stands l.failed (l.site s.ledger) now link old new s t result h
    (stood, push_stays l.site l.book l.bodies l.armed l.trusts l.stands l.failed now link old new s t result h)
