use Rattle.std.proofs.Common.{◌↔◌, IsTrue, Ok, Result}
use Rattle.sqlite.specs.Held.{state}
use Rattle.sqlite.specs.Tree.{Trees}
use Rattle.dr_ledger.specs.declared.fault.LedgerFault.{LedgerFault}
use Rattle.dr_ledger.specs.Bodies.{OnlyLetsGo}
use Rattle.dr_ledger.specs.Replies.{Forgets, IsOver}
use Rattle.dr_store_schema.specs.Books.{bodies_of, book_of}
use Rattle.dr_store_changes.specs.Changes.{TakesOut}
use Rattle.dr_store_calls.proofs.Calls.{below_of, written_called}
use Rattle.dr_store_calls.proofs.Moves.{all_stay}
use Rattle.dr_store_calls.proofs.Overs.{forgets, forgets_own}
use Rattle.dr_store_calls.proofs.forgetting.forget_if.Goals as goal

pub returns-then-over-clause-called : goal.returns-then-over-clause-called
returns-then-over-clause-called g c part =
    let n = c.args.n in
    let uid = c.args.uid.now in
    let r = c.written.result in
    let old = state g.S.Store c.args.conn.now in
    let new = state g.S.Store c.written.new.conn in
    let Asks : Trees → Type 0 = λ base. IsTrue c.args.over ↔ IsOver (book_of base) uid in
    let Answers : Result (Unit {0}) LedgerFault → Trees → Trees → Type 0 = λ result base db. Forgets uid (book_of base) result (book_of db) × OnlyLetsGo (bodies_of base) (bodies_of db) in
    written_called n part (λ db. Unit {0}) Asks (TakesOut uid n c.args.moment) Answers r old new (λ h. c.written.ensures.idle)
    (λ past ready l asks. tt) c.written.ensures.fault c.written.ensures.written
    (λ past ready l asks db w. forgets n c.args.moment part old.committed.trees db uid (below_of n old ready) l (asks.0 c.if-over.true) w)
    (λ e own. (forgets_own e uid (book_of old.committed.trees) own, all_stay (bodies_of old.committed.trees)))
    (Answers (Ok tt)) (λ base db it. it)
