use Rattle.std.proofs.Common.{◌≡◌, Ok, Option}
use Rattle.std.specs.FinMap as map
use Rattle.sqlite.specs.Held.{state}
use Rattle.sqlite.specs.Tree.{Trees}
use Rattle.dr_ledger.specs.declared.item.Progress.{Progress}
use Rattle.dr_ledger.specs.Bodies.{OnlyLetsGo}
use Rattle.dr_ledger.specs.Replies.{Settles}
use Rattle.dr_store_schema.specs.Books.{bodies_of, book_of, rows_of}
use Rattle.dr_store_calls.specs.Calling.{Nothing, advanced}
use Rattle.dr_store_calls.specs.LettingGo.{GoesWith, plain}
use Rattle.dr_store_calls.proofs.Calls.{asked_looked, looked_then}
use Rattle.dr_store_calls.proofs.settling.settle_row_of.Goals as goal

pub returns-in-Ok-clause-called : goal.returns-in-Ok-clause-called
returns-in-Ok-clause-called g c part =
    let n = c.args.n in
    let uid = c.args.uid.now in
    let dest = c.args.dest.now in
    let r = c.settle_found.result in
    let old = state g.S.Store c.args.conn.now in
    let mid = state g.S.Store c.find_row.new.conn in
    let new = state g.S.Store c.settle_found.new.conn in
    let Shows : Trees → Option Progress → Type 0 = λ base row. row ≡ map.get (rows_of base) (uid, dest) in
    let Answers : Trees → Trees → Type 0 = λ base db. Settles uid dest c.args.outcome c.args.now (book_of base) (plain r) (book_of db) × GoesWith r uid base db in
    let Makes : Trees → Trees → Type 0 = λ base db. Settles uid dest c.args.outcome c.args.now (book_of base) (Ok tt) (book_of db) × OnlyLetsGo (bodies_of base) (bodies_of db) in
    looked_then n (advanced r n) part old mid new Shows c.in-Ok.found r Nothing (λ base. Shows base c.in-Ok.found) Answers Makes Answers Makes (asked_looked n part _ old mid Shows c.in-Ok.ensures.asked)
    (c.settle_found.ensures.called part) (λ past db l any shown. shown) (λ base db any shown it. it) (λ base db any shown it. it)
