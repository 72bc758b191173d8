use Rattle.std.proofs.Common.{◌≡◌, ◌≤◌, ◌^◌, Ok, Err, OnOk, Option, Result, subst, sym}
use Rattle.sqlite.specs.Held.{state}
use Rattle.sqlite.specs.Tree.{Trees}
use Rattle.dr_ledger.specs.declared.content.Job.{Job}
use Rattle.dr_ledger.specs.declared.fault.LedgerFault.{LedgerFault}
use Rattle.dr_ledger.specs.Bodies.{OnlyLetsGo}
use Rattle.dr_ledger.specs.Replies.{Settles}
use Rattle.dr_store_schema.specs.Books.{bodies_of, book_of}
use Rattle.dr_store_calls.specs.Calling.{Called, Nothing, advanced}
use Rattle.dr_store_calls.specs.LettingGo.{GoesWith, IsCellOf, LetsCellsGo, plain}
use Rattle.dr_store_calls.proofs.Calls.{looked_failed, looked_then}
use Rattle.dr_store_calls.proofs.Going.{lets_cells_go, no_cell_goes, plain_on_ok, untold}
use Rattle.dr_store_calls.proofs.Moves.{settles_own}
use Rattle.dr_store_calls.proofs.letting_go.settle.Goals as goal

pub returns-in-Ok-clause-called : goal.returns-in-Ok-clause-called
returns-in-Ok-clause-called g c part =
    let n = c.args.n in
    let uid = c.args.at.now.uid.now in
    let dest = c.args.at.now.dest.now in
    let found = c.in-Ok.found in
    let r = c.settle_row_of-answer.result in
    let old = state g.S.Store c.args.conn.now in
    let mid = state g.S.Store c.find_cell.new.conn in
    let new = state g.S.Store c.settle_row_of-answer.new.conn in
    let was = c.args.shelf.now in
    let shelf = c.let_go_gone.new.shelf in
    let Apart = g.B.Shelf.apart (g.B.Shelf.named c.args.shelf.now) in
    let Shows : Trees → Option Job → Type 0 = λ base. IsCellOf Apart uid base in
    let Tables : Trees → Trees → Type 0 =
    λ base db. Settles uid dest c.args.outcome c.args.now (book_of base) (plain r) (book_of db) × GoesWith r uid base db in
    let Answers : Result (Unit {0}) LedgerFault → Trees → Trees → Type 0 =
    λ result base db. Settles uid dest c.args.outcome c.args.now (book_of base) result (book_of db)
    × LetsCellsGo Apart (g.B.Shelf.uses was) (g.B.Shelf.stands was) (g.B.Shelf.uses shelf)
    (g.B.Shelf.stands shelf) base db in
    let Makes : Trees → Trees → Type 0 =
    λ base db. Settles uid dest c.args.outcome c.args.now (book_of base) (Ok tt) (book_of db)
    × OnlyLetsGo (bodies_of base) (bodies_of db) in
    let Whole : Result (Unit {0}) LedgerFault → Type 0 =
    λ x. Called n (advanced x n) part x old new Nothing (Answers x) Makes in
    subst Whole (sym c.let_go_gone.ensures.plain)
    (untold n part old new Nothing r (Answers (plain r)) Makes
    (looked_then n (advanced r n) part old mid new Shows found r Nothing Nothing Tables Makes
    (Answers (plain r)) Makes (c.in-Ok.ensures.looked n part)
    (c.settle_row_of-answer.ensures.called part)
    (λ past db l any shown. tt)
    (λ base db any shown it. (
      it.0,
      lets_cells_go Apart (g.B.Shelf.uses was) (g.B.Shelf.stands was) (g.B.Shelf.uses shelf)
          (g.B.Shelf.stands shelf) uid base db found r shown c.let_go_gone.ensures.left it.1,
    ))
    (λ base db any shown it. it)))

pub returns-in-Ok-clause-number : goal.returns-in-Ok-clause-number
returns-in-Ok-clause-number g c =
    let P : Result (Unit {0}) LedgerFault → Type 0 = λ r. OnOk r (c.args.n ≤ 2 ^ 62) in
    subst P (sym c.let_go_gone.ensures.plain)
    (plain_on_ok c.settle_row_of-answer.result (c.args.n ≤ 2 ^ 62) c.settle_row_of-answer.ensures.number)

pub returns-in-Err-clause-called : goal.returns-in-Err-clause-called
returns-in-Err-clause-called g c part =
    let n = c.args.n in
    let uid = c.args.at.now.uid.now in
    let dest = c.args.at.now.dest.now in
    let e = c.in-Err.fault in
    let old = state g.S.Store c.args.conn.now in
    let new = state g.S.Store c.find_cell.new.conn in
    let was = c.args.shelf.now in
    let Apart = g.B.Shelf.apart (g.B.Shelf.named c.args.shelf.now) in
    let Shows : Trees → Option Job → Type 0 = λ base. IsCellOf Apart uid base in
    looked_failed {B = Unit {0}} n part old new Shows e Nothing
    (λ base db. Settles uid dest c.args.outcome c.args.now (book_of base) (Err e) (book_of db)
    × LetsCellsGo Apart (g.B.Shelf.uses was) (g.B.Shelf.stands was) (g.B.Shelf.uses was)
    (g.B.Shelf.stands was) base db)
    (λ base db. Settles uid dest c.args.outcome c.args.now (book_of base) (Ok tt) (book_of db)
    × OnlyLetsGo (bodies_of base) (bodies_of db))
    (c.in-Err.ensures.looked n part)
    (λ base any own. (
      settles_own e uid dest c.args.outcome c.args.now (book_of base) own,
      no_cell_goes Apart (g.B.Shelf.uses was) (g.B.Shelf.stands was) uid base,
    ))
