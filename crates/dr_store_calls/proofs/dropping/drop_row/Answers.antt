use Rattle.std.proofs.Common.{◌≡◌, ◌↔◌, ◌≤◌, ◌^◌, Bool, not, IsTrue, Some, Ok, Err, OnOk, Result, refl, subst, sym}
use Rattle.std.specs.FinMap as map
use Rattle.sqlite.specs.Held.{state}
use Rattle.sqlite.specs.Tree.{Trees}
use Rattle.dr_ledger.specs.declared.fault.LedgerFault.{LedgerFault}
use Rattle.dr_ledger.specs.declared.item.Progress.TheVariants.{Held, Dropped}
use Rattle.dr_ledger.specs.Bodies.{OnlyLetsGo}
use Rattle.dr_ledger.specs.Replies.{Drops}
use Rattle.dr_store_schema.specs.Books.{bodies_of, book_of, rows_of}
use Rattle.dr_store_changes.specs.Changes.{AsksForRow, GivesUp}
use Rattle.dr_store_calls.specs.Calling.{Called, advanced}
use Rattle.dr_store_calls.specs.LettingGo.{GoesWith, plain, telling}
use Rattle.dr_store_calls.specs.Needs.{IsNeededStill}
use Rattle.dr_store_calls.proofs.Calls.{below_of, looked_failed, looked_then, written_called}
use Rattle.dr_store_calls.proofs.Going.{told, telling_on_ok}
use Rattle.dr_store_calls.proofs.Moves.{all_stay, drops, drops_own, row_asks}
use Rattle.dr_store_calls.proofs.dropping.drop_row.Goals as goal

pub returns-in-Err-clause-called : goal.returns-in-Err-clause-called
returns-in-Err-clause-called g c part =
    let uid = c.args.uid.now in
    let dest = c.args.dest.now in
    let now = c.args.now in
    let e = c.in-Err.fault in
    let old = state g.S.Store c.args.conn.now in
    let Shows : Trees → Bool → Type 0 = λ base b. IsTrue b ↔ IsNeededStill base uid dest Dropped in
    looked_failed {B = Bool} c.args.n part old (state g.S.Store c.is_needed.new.conn) Shows e
    (λ base. map.get (rows_of base) (uid, dest) ≡ Some (Held c.args.why))
    (λ base db. Drops uid dest now (book_of base) (Err e) (book_of db) × GoesWith (Err e) uid base db)
    (λ base db. Drops uid dest now (book_of base) (Ok tt) (book_of db)
    × OnlyLetsGo (bodies_of base) (bodies_of db))
    (c.in-Err.ensures.looked c.args.n part)
    (λ base held own. (drops_own e uid dest now (book_of base) own, refl))

pub returns-in-Ok-clause-called : goal.returns-in-Ok-clause-called
returns-in-Ok-clause-called g c part =
    let n = c.args.n in
    let uid = c.args.uid.now in
    let dest = c.args.dest.now in
    let why = c.args.why in
    let now = c.args.now in
    let needed = c.in-Ok.needed in
    let r = c.written-answer.result in
    let went = not needed in
    let old = state g.S.Store c.args.conn.now in
    let mid = state g.S.Store c.is_needed.new.conn in
    let new = state g.S.Store c.written-answer.new.conn in
    let IsHeldThere : Trees → Type 0 =
    λ base. map.get (rows_of base) (uid, dest) ≡ Some (Held why) in
    let Shows : Trees → Bool → Type 0 = λ base b. IsTrue b ↔ IsNeededStill base uid dest Dropped in
    let Given : Trees → Type 0 = λ base. IsHeldThere base × Shows base needed in
    let Answers : Result (Unit {0}) LedgerFault → Trees → Trees → Type 0 =
    λ result base db. Drops uid dest now (book_of base) result (book_of db)
    × OnlyLetsGo (bodies_of base) (bodies_of db) × GoesWith (telling went result) uid base db in
    let Says : Result Bool LedgerFault → Trees → Trees → Type 0 =
    λ result base db. Drops uid dest now (book_of base) (plain result) (book_of db)
    × GoesWith result uid base db in
    let Makes : Trees → Trees → Type 0 =
    λ base db. Drops uid dest now (book_of base) (Ok tt) (book_of db)
    × OnlyLetsGo (bodies_of base) (bodies_of db) in
    let Whole : Result Bool LedgerFault → Type 0 =
    λ x. Called n (advanced x n) part x old new IsHeldThere (Says x) Makes in
    let t = telling went r in
    subst Whole (sym c.tells.ensures)
    (looked_then n (advanced t n) part old mid new Shows needed t IsHeldThere Given (Says t) Makes
    (Says t) Makes (c.in-Ok.ensures.looked n part)
    (told n part mid new Given went r Answers Says Makes
    (λ base db it. (it.0, it.2))
    (λ e base db it. (it.0, it.2))
    (written_called n part (AsksForRow (uid, dest)) Given (GivesUp uid dest now n (not needed))
    Answers r mid new
    (λ h. c.written-answer.ensures.idle)
    (λ past ready l given. row_asks mid.committed.trees uid dest (Held why) l.bodied given.0 refl)
    c.written-answer.ensures.fault c.written-answer.ensures.written
    (λ past ready l given db w. drops n part mid.committed.trees db uid dest why now needed
    c.requires.early (below_of n mid ready) l given.0 given.1 w)
    (λ e own. (
      drops_own e uid dest now (book_of mid.committed.trees) own,
      all_stay (bodies_of mid.committed.trees),
      refl,
    )) Makes
    (λ base db it. (it.0, it.1))))
    (λ past db l held shown. (held, shown))
    (λ base db held shown it. it)
    (λ base db held shown it. it))

pub returns-in-Ok-clause-number : goal.returns-in-Ok-clause-number
returns-in-Ok-clause-number g c =
    let P : Result Bool LedgerFault → Type 0 = λ r. OnOk r (c.args.n ≤ 2 ^ 62) in
    subst P (sym c.tells.ensures)
    (telling_on_ok (not c.in-Ok.needed) c.written-answer.result (c.args.n ≤ 2 ^ 62)
    c.written-answer.ensures.number)
