use Rattle.std.proofs.Common.{List, ℕ, ◌≡◌, Option}
use Rattle.sqlite.specs.Held.{state}
use Rattle.sqlite.specs.Tree.{Trees}
use Rattle.dr_store_calls.specs.declared.knowing.Known.{Known}
use Rattle.dr_store_calls.specs.Calling.{Nothing}
use Rattle.dr_store_calls.specs.Knowing.{IsWhatIsKnown}
use Rattle.dr_store_calls.specs.Shelving.{IsPut}
use Rattle.dr_store_calls.proofs.Takings.{not_read, read_then}
use Rattle.dr_store_calls.proofs.receiving.receive.Goals as goal

pub returns-in-Ok-clause-called : goal.returns-in-Ok-clause-called
returns-in-Ok-clause-called g c =
    let Comes : Option (List ℕ) → Type 0 =
    IsPut (c.arrive_by.new.shelf ≡ c.args.shelf.now) (g.B.Shelf.uses c.args.shelf.now) (g.B.Shelf.uses c.arrive_by.new.shelf)
    (g.B.Shelf.stands c.arrive_by.new.shelf) (g.B.Shelf.apart (g.B.Shelf.named c.args.shelf.now)) c.args.came.now.body.now in
    let came = c.args.came.now in
    let known = c.in-Ok.known in
    let Shows : Trees → Known → Type 0 = λ base known. IsWhatIsKnown base came.instance.now known in
    read_then Comes came (state g.S.Store c.args.conn.now) (state g.S.Store c.arrive_by.new.conn) (state g.S.Store c.know.new.conn) Shows known c.arrive_by.result Nothing (λ base. IsWhatIsKnown base came.instance.now known)
    (c.in-Ok.ensures.looked came.n came.site.now) c.arrive_by.ensures.called
    (λ db asks shown. shown)

pub returns-in-Err-clause-called : goal.returns-in-Err-clause-called
returns-in-Err-clause-called g c =
    let Comes : Option (List ℕ) → Type 0 =
    IsPut (c.args.shelf.now ≡ c.args.shelf.now) (g.B.Shelf.uses c.args.shelf.now) (g.B.Shelf.uses c.args.shelf.now)
    (g.B.Shelf.stands c.args.shelf.now) (g.B.Shelf.apart (g.B.Shelf.named c.args.shelf.now)) c.args.came.now.body.now in
    let came = c.args.came.now in
    let Shows : Trees → Known → Type 0 = λ base known. IsWhatIsKnown base came.instance.now known in
    not_read Comes came (state g.S.Store c.args.conn.now) (state g.S.Store c.know.new.conn) Shows c.in-Err.fault Nothing c.requires.delivered (c.in-Err.ensures.looked came.n came.site.now)
