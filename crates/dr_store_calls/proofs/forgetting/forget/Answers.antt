use Rattle.std.proofs.Common.{◌↔◌, Bool, IsTrue, Ok, Err}
use Rattle.sqlite.specs.Held.{state}
use Rattle.sqlite.specs.Tree.{Trees}
use Rattle.dr_ledger.specs.Bodies.{OnlyLetsGo}
use Rattle.dr_ledger.specs.Replies.{Forgets, IsOver}
use Rattle.dr_store_schema.specs.Books.{bodies_of, book_of}
use Rattle.dr_store_calls.specs.Calling.{Nothing, advanced}
use Rattle.dr_store_calls.proofs.Calls.{looked_failed, looked_then}
use Rattle.dr_store_calls.proofs.Moves.{all_stay}
use Rattle.dr_store_calls.proofs.Overs.{forgets_own}
use Rattle.dr_store_calls.proofs.forgetting.forget.Goals as goal

pub returns-in-Ok-clause-called : goal.returns-in-Ok-clause-called
returns-in-Ok-clause-called g c part =
    let n = c.args.n in
    let uid = c.args.uid.now in
    let over = c.in-Ok.over in
    let r = c.forget_if.result in
    let old = state g.S.Store c.args.conn.now in
    let mid = state g.S.Store c.is_over.new.conn in
    let new = state g.S.Store c.forget_if.new.conn in
    let Shows : Trees → Bool → Type 0 = λ base b. IsTrue b ↔ IsOver (book_of base) uid in
    let Answers : Trees → Trees → Type 0 = λ base db. Forgets uid (book_of base) r (book_of db) × OnlyLetsGo (bodies_of base) (bodies_of db) in
    let Makes : Trees → Trees → Type 0 = λ base db. Forgets uid (book_of base) (Ok tt) (book_of db) × OnlyLetsGo (bodies_of base) (bodies_of db) in
    looked_then n (advanced r n) part old mid new Shows over r Nothing (λ base. Shows base over) Answers Makes Answers Makes (c.in-Ok.ensures.looked n part)
    (c.forget_if.ensures.called part) (λ past db l any shown. shown) (λ base db any shown it. it) (λ base db any shown it. it)

pub returns-in-Err-clause-called : goal.returns-in-Err-clause-called
returns-in-Err-clause-called g c part =
    let uid = c.args.uid.now in
    let e = c.in-Err.fault in
    let Shows : Trees → Bool → Type 0 = λ base b. IsTrue b ↔ IsOver (book_of base) uid in
    looked_failed {B = Unit {0}} c.args.n part (state g.S.Store c.args.conn.now) (state g.S.Store c.is_over.new.conn) Shows e Nothing
    (λ base db. Forgets uid (book_of base) (Err e) (book_of db) × OnlyLetsGo (bodies_of base) (bodies_of db)) (λ base db. Forgets uid (book_of base) (Ok tt) (book_of db) × OnlyLetsGo (bodies_of base) (bodies_of db)) (c.in-Err.ensures.looked c.args.n part)
    (λ base any own. (forgets_own e uid (book_of base) own, all_stay (bodies_of base)))
