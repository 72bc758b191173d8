use Rattle.std.proofs.Common.{◌≡◌, ◌∙◌, ap, subst, sym}
use Rattle.std.specs.FinMap as map
use Rattle.sqlite.specs.Held.{state}
use Rattle.dr_ledger.specs.Books.{Book}
use Rattle.dr_store_schema.specs.Books.{book_of}
use Rattle.dr_store_calls.proofs.Reading.{reads_as}
use Rattle.dr_store.specs.Reading.{FindsUnreadable, QueuedAreThere}
use Rattle.dr_store.proofs.Unreadables.{finds_before}
use Rattle.dr_store.proofs.ledger.SqlLedger.first_queued.Goals as goal

pub returns-clause-reply : goal.returns-clause-reply
returns-clause-reply g c is safe =
    let base = (state g.S.Store c.args.self.now.conn).committed.trees in
    let mid = (state g.S.Store c.rows.new.self.conn).committed.trees in
    let was_of = g.B.Shelf.read_of c.args.self.now.shelf in
    let mid_of = g.B.Shelf.read_of c.rows.new.self.shelf in
    let stood = c.first_of_rows.ensures.leaves.stood is safe in
    let same = c.in_ok-rows.ensures.same stood in
    let rows = c.as_slice.ensures ∙ c.in_ok-rows.ensures.reply stood ∙ ap (λ (b : Book). map.entries b.rows) (sym same.0) in
    reads_as c.first_of_rows.result (FindsUnreadable QueuedAreThere mid_of mid) (FindsUnreadable QueuedAreThere was_of base) (finds_before g.P.LedgerPast.all_lines QueuedAreThere (λ db bodies h. h) (λ db bodies h. h) was_of mid_of base mid same)
    (c.first_of_rows.ensures.reply is safe rows)
