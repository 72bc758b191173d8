use Rattle.std.proofs.Common.{◌≡◌, ◌↔◌, ◌≤◌, ◌+◌, ◌^◌, ℕ, Bool, not, IsTrue, Some, Ok, Err, OnOk, Result, refl, subst, sym}
use Rattle.std.specs.FinMap as map
use Rattle.sqlite.specs.Effect.{Database}
use Rattle.sqlite.specs.Held.{state}
use Rattle.sqlite.specs.Tree.{Trees}
use Rattle.dr_ledger.specs.declared.fault.LedgerFault.{LedgerFault}
use Rattle.dr_ledger.specs.declared.item.Progress.TheVariants.{Waiting}
use Rattle.dr_ledger.specs.Bodies.{OnlyLetsGo}
use Rattle.dr_ledger.specs.Replies.{Settles}
use Rattle.dr_store_schema.specs.Books.{bodies_of, book_of, rows_of}
use Rattle.dr_store_schema.specs.Cells.{due_of}
use Rattle.dr_ledger.specs.declared.item.Progress.{Progress}
use Rattle.dr_store_writes.specs.Effects.{settled_line}
use Rattle.dr_store_changes.specs.Changes.{AsksForRow, MovesOn}
use Rattle.dr_store_calls.specs.Calling.{Called, advanced}
use Rattle.dr_store_calls.specs.LettingGo.{GoesWith, plain, telling}
use Rattle.dr_store_calls.specs.Needs.{IsNeededStill}
use Rattle.dr_store_calls.proofs.Calls.{below_of, looked_failed, looked_then, written_called}
use Rattle.dr_store_calls.proofs.Going.{told, telling_on_ok}
use Rattle.dr_store_calls.proofs.Moves.{all_stay, moved_low, row_asks, settles, settles_own}
use Rattle.dr_store_calls.proofs.settling.settle_row.Goals as goal

pub invariant_of-change : goal.invariant_of-change
invariant_of-change g c = record {
  due = let P : Progress → Type 0 = λ p. due_of p ≤ 2 ^ 62 + 300000 in subst P (sym c.moved-to.ensures) (moved_low c.args.was.0 c.args.outcome c.args.now c.requires.early);
  moment = c.requires.early;
}

pub returns-in-Err-clause-called : goal.returns-in-Err-clause-called
returns-in-Err-clause-called g c part =
    let uid = c.args.uid.now in
    let dest = c.args.dest.now in
    let e = c.in-Err.fault in
    let old = state g.S.Store c.args.conn.now in
    let Shows : Trees → Bool → Type 0 = λ base b. IsTrue b ↔ IsNeededStill base uid dest c.moved-to.result in
    looked_failed {B = Bool} c.args.n part old (state g.S.Store c.is_needed.new.conn) Shows e (λ base. map.get (rows_of base) (uid, dest) ≡ Some (Waiting c.args.was.0 c.args.was.1))
    (λ base db. Settles uid dest c.args.outcome c.args.now (book_of base) (Err e) (book_of db) × GoesWith (Err e) uid base db)
    (λ base db. Settles uid dest c.args.outcome c.args.now (book_of base) (Ok tt) (book_of db) × OnlyLetsGo (bodies_of base) (bodies_of db)) (c.in-Err.ensures.looked c.args.n part)
    (λ base waits own. (settles_own e uid dest c.args.outcome c.args.now (book_of base) own, refl))

pub returns-in-Ok-clause-called : goal.returns-in-Ok-clause-called
returns-in-Ok-clause-called g c part =
    let n = c.args.n in
    let uid = c.args.uid.now in
    let dest = c.args.dest.now in
    let what = c.args.outcome in
    let now = c.args.now in
    let tries = c.args.was.0 in
    let due = c.args.was.1 in
    let to = c.moved-to.result in
    let needed = c.in-Ok.needed in
    let r = c.written-answer.result in
    let went = not needed in
    let old = state g.S.Store c.args.conn.now in
    let mid = state g.S.Store c.is_needed.new.conn in
    let new = state g.S.Store c.written-answer.new.conn in
    let Waits : Trees → Type 0 = λ base. map.get (rows_of base) (uid, dest) ≡ Some (Waiting tries due) in
    let Shows : Trees → Bool → Type 0 = λ base b. IsTrue b ↔ IsNeededStill base uid dest to in
    let Given : Trees → Type 0 = λ base. Waits base × Shows base needed in
    let Answers : Result (Unit {0}) LedgerFault → Trees → Trees → Type 0 = λ result base db. Settles uid dest what now (book_of base) result (book_of db) × OnlyLetsGo (bodies_of base) (bodies_of db) × GoesWith (telling went result) uid base db in
    let Says : Result Bool LedgerFault → Trees → Trees → Type 0 = λ result base db. Settles uid dest what now (book_of base) (plain result) (book_of db) × GoesWith result uid base db in
    let Makes : Trees → Trees → Type 0 = λ base db. Settles uid dest what now (book_of base) (Ok tt) (book_of db) × OnlyLetsGo (bodies_of base) (bodies_of db) in
    let Whole : Result Bool LedgerFault → Type 0 = λ x. Called n (advanced x n) part x old new Waits (Says x) Makes in
    let t = telling went r in
    subst Whole (sym c.tells.ensures) (looked_then n (advanced t n) part old mid new Shows needed t Waits Given (Says t) Makes (Says t) Makes (c.in-Ok.ensures.looked n part)
    (told n part mid new Given went r Answers Says Makes (λ base db it. (it.0, it.2)) (λ e base db it. (it.0, it.2)) (written_called n part (AsksForRow (uid, dest)) Given (MovesOn (uid, dest) to (settled_line n uid dest what now) (not needed)) Answers r mid new (λ h. c.written-answer.ensures.idle)
    (λ past ready l given. row_asks mid.committed.trees uid dest (Waiting tries due) l.bodied given.0 refl) c.written-answer.ensures.fault c.written-answer.ensures.written
    (λ past ready l given db w. settles n part mid.committed.trees db uid dest tries due to what now needed c.requires.early (below_of n mid ready) l given.0 c.moved-to.ensures given.1 w)
    (λ e own. (settles_own e uid dest what now (book_of mid.committed.trees) own, all_stay (bodies_of mid.committed.trees), refl)) Makes (λ base db it. (it.0, it.1))))
    (λ past db l waits shown. (waits, shown)) (λ base db waits shown it. it) (λ base db waits shown it. it))

pub returns-in-Ok-clause-number : goal.returns-in-Ok-clause-number
returns-in-Ok-clause-number g c =
    let P : Result Bool LedgerFault → Type 0 = λ r. OnOk r (c.args.n ≤ 2 ^ 62) in
    subst P (sym c.tells.ensures) (telling_on_ok (not c.in-Ok.needed) c.written-answer.result (c.args.n ≤ 2 ^ 62) c.written-answer.ensures.number)
