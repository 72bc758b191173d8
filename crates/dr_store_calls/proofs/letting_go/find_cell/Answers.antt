use Rattle.std.proofs.Common.{◌≡◌, None, Option, Ok, refl}
use Rattle.sqlite.specs.Held.{state}
use Rattle.sqlite.specs.Tree.{Trees}
use Rattle.dr_ledger.specs.declared.content.Job.{Job}
use Rattle.dr_ledger.specs.Replies.{Reads}
use Rattle.dr_store_reads.specs.Queries.{IsJobOf}
use Rattle.dr_store_calls.specs.Calling.{Nothing}
use Rattle.dr_store_calls.specs.LettingGo.{IsCellOf}
use Rattle.dr_store_calls.proofs.Calls.{asked_looked, still_called}
use Rattle.dr_store_calls.proofs.Going.{cell_found}
use Rattle.dr_store_calls.proofs.Overs.{looked_as}
use Rattle.dr_store_calls.proofs.letting_go.find_cell.Goals as goal

pub returns-then-names_places-clause-looked : goal.returns-then-names_places-clause-looked
returns-then-names_places-clause-looked g c n part =
    let uid = c.args.uid.now in
    let r = c.find_job.result in
    let old = state g.S.Store c.args.conn.now in
    let new = state g.S.Store c.find_job.new.conn in
    let Shows : Trees → Option Job → Type 0 = λ base. IsJobOf uid base in
    let Says : Trees → Option Job → Type 0 = λ base. IsCellOf (g.B.Shelf.apart (g.B.Shelf.named c.args.shelf.now)) uid base in
    looked_as n part r old new Shows Says (asked_looked n part r old new Shows c.find_job.ensures.asked)
    (λ base found. cell_found (g.B.Shelf.apart (g.B.Shelf.named c.args.shelf.now)) uid base found)

pub returns-clause-looked : goal.returns-clause-looked
returns-clause-looked g c n part =
    let none : Option Job = None in
    let Says : Trees → Option Job → Type 0 = λ base. IsCellOf (g.B.Shelf.apart (g.B.Shelf.named c.args.shelf.now)) c.args.uid.now base in
    still_called n part (Ok none) (state g.S.Store c.args.conn.now) Nothing
    (λ base db. (db ≡ base) × Reads (Ok none) (Says base))
    (λ base db. ⊥)
    (λ db any. (refl, λ cell there. c.names_places.ensures.free c.if-names_places.false cell cell))
    (λ P p. p)
