use Rattle.std.proofs.Common.{◌≡◌, false, Some, Ok, Err, Result, refl}
use Rattle.std.specs.FinMap as map
use Rattle.sqlite.specs.Held.{state}
use Rattle.sqlite.specs.Tree.{Trees}
use Rattle.dr_ledger.specs.declared.fault.LedgerFault.{LedgerFault}
use Rattle.dr_ledger.specs.declared.item.Progress.TheVariants.{Held, Waiting}
use Rattle.dr_ledger.specs.Bodies.{OnlyLetsGo}
use Rattle.dr_ledger.specs.Replies.{Requeues}
use Rattle.dr_store_schema.specs.Books.{bodies_of, book_of, rows_of}
use Rattle.dr_store_writes.specs.Effects.{requeued_line}
use Rattle.dr_store_changes.specs.Changes.{AsksForRow, MovesOn}
use Rattle.dr_store_calls.proofs.Calls.{below_of, written_called}
use Rattle.dr_store_calls.proofs.Moves.{all_stay, requeues, requeues_own, row_asks}
use Rattle.dr_store_calls.proofs.settling.requeue_row.Goals as goal

pub returns-clause-called : goal.returns-clause-called
returns-clause-called g c part =
    let n = c.args.n in
    let uid = c.args.uid.now in
    let dest = c.args.dest.now in
    let why = c.args.why in
    let r = c.written.result in
    let old = state g.S.Store c.args.conn.now in
    let new = state g.S.Store c.written.new.conn in
    let Asks : Trees → Type 0 = λ base. map.get (rows_of base) (uid, dest) ≡ Some (Held why) in
    let Answers : Result (Unit {0}) LedgerFault → Trees → Trees → Type 0 = λ result base db. Requeues uid dest (book_of base) result (book_of db) × OnlyLetsGo (bodies_of base) (bodies_of db) in
    written_called n part (AsksForRow (uid, dest)) Asks (MovesOn (uid, dest) (Waiting 0 0) (requeued_line n c.args.moment uid dest) false) Answers r old new (λ h. c.written.ensures.idle)
    (λ past ready l held. row_asks old.committed.trees uid dest (Held why) l.bodied held refl) c.written.ensures.fault c.written.ensures.written
    (λ past ready l held db w. requeues n c.args.moment part old.committed.trees db uid dest why (below_of n old ready) l held w)
    (λ e own. (requeues_own e uid dest (book_of old.committed.trees) own, all_stay (bodies_of old.committed.trees)))
    (Answers (Ok tt)) (λ base db it. it)
