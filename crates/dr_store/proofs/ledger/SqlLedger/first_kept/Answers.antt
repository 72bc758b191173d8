use Rattle.std.proofs.Common.{◌≡◌, subst, sym}
use Rattle.sqlite.specs.Held.{state}
use Rattle.dr_ledger.specs.Books.{Book}
use Rattle.dr_ledger.specs.Replies.{AreKept}
use Rattle.dr_store_schema.specs.Books.{book_of}
use Rattle.dr_store_calls.proofs.Reading.{reads_as}
use Rattle.dr_store.specs.Reading.{FindsUnreadable, KeptAreThere}
use Rattle.dr_store.proofs.Unreadables.{finds_before}
use Rattle.dr_store.proofs.ledger.SqlLedger.first_kept.Goals as goal

pub returns-clause-reply : goal.returns-clause-reply
returns-clause-reply g c is safe =
    let base = (state g.S.Store c.args.self.now.conn).committed.trees in
    let mid = (state g.S.Store c.kept.new.self.conn).committed.trees in
    let was_of = g.B.Shelf.read_of c.args.self.now.shelf in
    let mid_of = g.B.Shelf.read_of c.kept.new.self.shelf in
    let stood = c.first_of_kept.ensures.leaves.stood is safe in
    let same = c.in_ok-kept.ensures.same stood in
    let are = subst (λ (b : Book). AreKept b c.in_ok-kept.kept) (sym same.0) (c.in_ok-kept.ensures.reply stood) in
    reads_as c.first_of_kept.result (FindsUnreadable KeptAreThere mid_of mid) (FindsUnreadable KeptAreThere was_of base) (finds_before g.P.LedgerPast.all_lines KeptAreThere (λ db bodies h. h) (λ db bodies h. h) was_of mid_of base mid same)
    (c.first_of_kept.ensures.reply is safe (subst (AreKept (book_of mid)) (sym c.as_slice.ensures) are))
