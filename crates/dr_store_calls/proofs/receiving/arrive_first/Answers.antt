use Rattle.std.proofs.Common.{false, List, ℕ, ◌≡◌, Option}
use Rattle.sqlite.specs.Held.{state}
use Rattle.sqlite.specs.Tree.{Trees}
use Rattle.dr_store_calls.specs.Receiving.{IsFoundFor, IsThereFor}
use Rattle.dr_store_calls.specs.Shelving.{IsPut}
use Rattle.dr_store_calls.proofs.Takings.{not_read, read_then}
use Rattle.dr_store_calls.proofs.receiving.arrive_first.Goals as goal

pub returns-in-Ok-clause-called : goal.returns-in-Ok-clause-called
returns-in-Ok-clause-called g c =
    let Comes : Option (List ℕ) → Type 0 =
    IsPut (c.bring_there.new.shelf ≡ c.args.shelf.now) (g.B.Shelf.uses c.args.shelf.now) (g.B.Shelf.uses c.bring_there.new.shelf)
    (g.B.Shelf.stands c.bring_there.new.shelf) (g.B.Shelf.apart (g.B.Shelf.named c.args.shelf.now)) c.args.came.now.body.now in
    let came = c.args.came.now in
    let Asks = IsThereFor came c.args.whole false in
    let Given : Trees → Type 0 = λ base. Asks base × IsFoundFor came.instance.now.uid base c.in-Ok.first in
    read_then Comes came (state g.S.Store c.args.conn.now) (state g.S.Store c.bring_there.new.conn) (state g.S.Store c.find_first.new.conn) (IsFoundFor came.instance.now.uid) c.in-Ok.first c.bring_there.result Asks Given
    (c.in-Ok.ensures.looked came.n came.site.now) c.bring_there.ensures.called (λ db is shown. (is, shown))

pub returns-in-Err-clause-called : goal.returns-in-Err-clause-called
returns-in-Err-clause-called g c =
    let Comes : Option (List ℕ) → Type 0 =
    IsPut (c.args.shelf.now ≡ c.args.shelf.now) (g.B.Shelf.uses c.args.shelf.now) (g.B.Shelf.uses c.args.shelf.now)
    (g.B.Shelf.stands c.args.shelf.now) (g.B.Shelf.apart (g.B.Shelf.named c.args.shelf.now)) c.args.came.now.body.now in
    let came = c.args.came.now in
    not_read Comes came (state g.S.Store c.args.conn.now) (state g.S.Store c.find_first.new.conn) (IsFoundFor came.instance.now.uid) c.in-Err.fault (IsThereFor came c.args.whole false) c.requires.delivered
    (c.in-Err.ensures.looked came.n came.site.now)
