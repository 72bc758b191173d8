use Rattle.std.proofs.Common.{Option, subst}
use Rattle.sqlite.specs.Held.{state}
use Rattle.dr_base.specs.Texts.{Text}
use Rattle.dr_ledger.specs.Bodies.{HasAll}
use Rattle.dr_store_calls.proofs.Reading.{reads_as}
use Rattle.dr_store.specs.Reading.{FindsUnreadable, KeptAreThere, QueuedAreThere}
use Rattle.dr_store.proofs.Unreadables.{finds_all, finds_before}
use Rattle.dr_store.proofs.ledger.SqlLedger.find_unreadable.Goals as goal

pub returns-in-None-clause-reply : goal.returns-in-None-clause-reply
returns-in-None-clause-reply g c is safe =
    let base = (state g.S.Store c.args.self.now.conn).committed.trees in
    let mid = (state g.S.Store c.first_kept.new.self.conn).committed.trees in
    let was_of = g.B.Shelf.read_of c.args.self.now.shelf in
    let mid_of = g.B.Shelf.read_of c.first_kept.new.self.shelf in
    let stood = c.first_queued.ensures.leaves.stood is safe in
    let same = c.in_ok-uid.ensures.leaves.same stood.1 stood.0 in
    let kept = subst (λ (found : Option Text). FindsUnreadable KeptAreThere was_of base found) c.in-None.is (c.in_ok-uid.ensures.reply stood.1 stood.0) in
    reads_as c.first_queued.result (FindsUnreadable QueuedAreThere mid_of mid) (FindsUnreadable HasAll was_of base) (λ found queued. finds_all was_of base kept found (finds_before g.P.LedgerPast.all_lines QueuedAreThere (λ db bodies h. h) (λ db bodies h. h) was_of mid_of base mid same found queued)) (c.first_queued.ensures.reply is safe)
