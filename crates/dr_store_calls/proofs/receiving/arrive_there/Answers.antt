use Rattle.std.proofs.Common.{◌≡◌, ◌∙◌, true, false, Bool, sym, List, ℕ, Option, refl}
use Rattle.std.specs.FinSet as set
use Rattle.sqlite.specs.Held.{state}
use Rattle.sqlite.specs.Tree.{Trees}
use Rattle.dr_ledger.specs.declared.item.Arrived.TheVariants.{Again}
use Rattle.dr_store_schema.specs.Books.{arrivals_in}
use Rattle.dr_store_calls.specs.Knowing.{IsThere}
use Rattle.dr_store_calls.specs.Receiving.{ComesNone, IsThereFor}
use Rattle.dr_store_calls.proofs.Calls.{asked_looked}
use Rattle.dr_store_calls.specs.Shelving.{IsPut}
use Rattle.dr_store_calls.proofs.Takings.{from_none, not_read, read_then, received_as}
use Rattle.dr_store_calls.proofs.receiving.arrive_there.Goals as goal

pub returns-then-brought-clause-called : goal.returns-then-brought-clause-called
returns-then-brought-clause-called g c =
    let Comes : Option (List ℕ) → Type 0 =
    IsPut (c.args.shelf.now ≡ c.args.shelf.now) (g.B.Shelf.uses c.args.shelf.now) (g.B.Shelf.uses c.args.shelf.now)
    (g.B.Shelf.stands c.args.shelf.now) (g.B.Shelf.apart (g.B.Shelf.named c.args.shelf.now)) c.args.came.now.body.now in
    let came = c.args.came.now in
    let old = state g.S.Store c.args.conn.now in
    let mid = state g.S.Store c.find_arrival.new.conn in
    let new = state g.S.Store c.repeat.new.conn in
    let Shows : Trees → Bool → Type 0 = λ base brought. brought ≡ set.contains (arrivals_in (base 5)) (came.caller.now, came.instance.now.uid) in
    let Asks : Trees → Type 0 = λ base. IsThere base came.instance.now c.args.whole in
    let Given = IsThereFor came c.args.whole true in
    read_then Comes came old new mid Shows c.in-Ok.brought c.repeat.result Asks Given (asked_looked came.n came.site.now _ old mid Shows c.in-Ok.ensures.asked)
    (received_as Comes came mid new ComesNone (from_none Comes refl) Again c.repeat.result Given Given (λ past db l is. is) c.repeat.ensures.called)
    (λ db is shown. (is, sym shown ∙ c.if-brought.true))

pub returns-else-brought-clause-called : goal.returns-else-brought-clause-called
returns-else-brought-clause-called g c =
    let Comes : Option (List ℕ) → Type 0 =
    IsPut (c.arrive_first.new.shelf ≡ c.args.shelf.now) (g.B.Shelf.uses c.args.shelf.now) (g.B.Shelf.uses c.arrive_first.new.shelf)
    (g.B.Shelf.stands c.arrive_first.new.shelf) (g.B.Shelf.apart (g.B.Shelf.named c.args.shelf.now)) c.args.came.now.body.now in
    let came = c.args.came.now in
    let old = state g.S.Store c.args.conn.now in
    let mid = state g.S.Store c.find_arrival.new.conn in
    let new = state g.S.Store c.arrive_first.new.conn in
    let Shows : Trees → Bool → Type 0 = λ base brought. brought ≡ set.contains (arrivals_in (base 5)) (came.caller.now, came.instance.now.uid) in
    let Asks : Trees → Type 0 = λ base. IsThere base came.instance.now c.args.whole in
    read_then Comes came old new mid Shows c.in-Ok.brought c.arrive_first.result Asks (IsThereFor came c.args.whole false) (asked_looked came.n came.site.now _ old mid Shows c.in-Ok.ensures.asked)
    c.arrive_first.ensures.called
    (λ db is shown. (is, sym shown ∙ c.if-brought.false))

pub returns-in-Err-clause-called : goal.returns-in-Err-clause-called
returns-in-Err-clause-called g c =
    let Comes : Option (List ℕ) → Type 0 =
    IsPut (c.args.shelf.now ≡ c.args.shelf.now) (g.B.Shelf.uses c.args.shelf.now) (g.B.Shelf.uses c.args.shelf.now)
    (g.B.Shelf.stands c.args.shelf.now) (g.B.Shelf.apart (g.B.Shelf.named c.args.shelf.now)) c.args.came.now.body.now in
    let came = c.args.came.now in
    let old = state g.S.Store c.args.conn.now in
    let mid = state g.S.Store c.find_arrival.new.conn in
    let Shows : Trees → Bool → Type 0 = λ base brought. brought ≡ set.contains (arrivals_in (base 5)) (came.caller.now, came.instance.now.uid) in
    not_read Comes came old mid Shows c.in-Err.fault (λ base. IsThere base came.instance.now c.args.whole) c.requires.delivered (asked_looked came.n came.site.now _ old mid Shows c.in-Err.ensures.asked)
