use Rattle.std.proofs.Common.{◌≡◌, All, Ok, take}
use Rattle.sqlite.specs.Held.{state}
use Rattle.dr_store_calls.specs.Calling.{IsSafe}
use Rattle.dr_store.specs.Reading.{LeavesAsRead}
use Rattle.dr_store.proofs.Unreadables.{KeptHasIts}
use Rattle.dr_store.proofs.ledger.SqlLedger.first_of_kept.Given as goal

abbrev pub invariant-loop-one : goal.invariant-loop-one
invariant-loop-one g l =
    let old = state g.S.Store l.fn.self.conn in
    let now = state g.S.Store l.self.conn in
    let was_of = g.B.Shelf.read_of l.fn.self.shelf in
    LeavesAsRead g.P.LedgerPast.all_lines (Ok (tt {0})) was_of (g.B.Shelf.read_of l.self.shelf) (g.B.Shelf.is_clean l.fn.self.shelf × g.P.LedgerPast.is_clean l.fn.self.past) (g.B.Shelf.is_clean l.self.shelf × g.P.LedgerPast.is_clean l.self.past) old now l.fn.self.failures l.self.failures
    × (l.self.site ≡ l.fn.self.site)
    × (g.B.Shelf.is_clean l.self.shelf × g.P.LedgerPast.is_clean l.self.past → IsSafe now → All (KeptHasIts was_of old.committed.trees) (take l.one-index l.kept))
