use Rattle.std.proofs.Common.{◌≡◌, ◌∙◌, List, [], ℕ, Err, Option, Some, refl, sym, subst}
use Rattle.sqlite.specs.Held.{state}
use Rattle.sqlite.specs.Tree.{Trees}
use Rattle.dr_ledger.specs.declared.fault.LedgerFault.{LedgerFault}
use Rattle.dr_ledger.specs.declared.item.Arrived.TheVariants.{New}
use Rattle.dr_store_calls.specs.Knowing.{FitsTables}
use Rattle.dr_store_calls.specs.Receiving.{IsCellTaken, ReceivesAs}
use Rattle.dr_store_calls.specs.Shelving.{IsPut, fault_of_shelf}
use Rattle.dr_store_calls.proofs.Shelved.{no_place, one_place, own_fault}
use Rattle.dr_store_calls.proofs.Takings.{brought_as, not_brought}
use Rattle.dr_store_calls.proofs.arriving.put_and_bring.Goals as goal

pub returns-then-not-does_come-clause-called : goal.returns-then-not-does_come-clause-called
returns-then-not-does_come-clause-called g c =
    let came = c.args.came.now in
    let reception = c.args.reception.now in
    let shelf = c.args.shelf.now in
    let Uses = g.B.Shelf.uses shelf in
    let cell : List ℕ = [] in
    let Comes : Option (List ℕ) → Type 0 =
    IsPut (shelf ≡ shelf) Uses Uses (g.B.Shelf.stands shelf) (g.B.Shelf.apart (g.B.Shelf.named c.args.shelf.now)) came.body.now in
    let Asks : Trees → Type 0 =
    λ base. FitsTables reception.taking came.caller.now came.instance.now c.args.targets.now.to
    c.args.targets.now.keep reception.again.now reception.dests.now reception.keeps base in
    brought_as Comes came (state g.S.Store c.args.conn.now) (state g.S.Store c.bring.new.conn)
    (IsCellTaken reception.taking cell)
    (no_place (shelf ≡ shelf) Uses Uses (g.B.Shelf.stands shelf) (g.B.Shelf.apart (g.B.Shelf.named c.args.shelf.now)) came.body.now
    reception.taking cell refl (sym c.does_come.ensures ∙ c.if-not-does_come.true))
    New c.bring.result Asks c.bring.ensures.called

pub returns-in-Ok-clause-called : goal.returns-in-Ok-clause-called
returns-in-Ok-clause-called g c =
    let came = c.args.came.now in
    let reception = c.args.reception.now in
    let was = c.args.shelf.now in
    let shelf = c.put.new.self in
    let cell = c.bytes.result.now in
    let Used = g.B.Shelf.uses was in
    let Uses = g.B.Shelf.uses shelf in
    let Stands = g.B.Shelf.stands shelf in
    let Apart = g.B.Shelf.apart (g.B.Shelf.named c.args.shelf.now) in
    let Comes : Option (List ℕ) → Type 0 =
    IsPut (shelf ≡ was) Used Uses Stands Apart came.body.now in
    let Asks : Trees → Type 0 =
    λ base. FitsTables reception.taking came.caller.now came.instance.now c.args.targets.now.to
    c.args.targets.now.keep reception.again.now reception.dests.now reception.keeps base in
    let put = c.in-Ok.ensures in
    brought_as Comes came (state g.S.Store c.args.conn.now) (state g.S.Store c.bring-in-Ok.new.conn)
    (IsCellTaken reception.taking cell)
    (one_place (shelf ≡ was) Used Uses Stands Apart came.body.now reception.taking cell
    (sym c.does_come.ensures ∙ c.if-not-does_come.false)
    (subst (λ x. Comes (Some x)) (sym c.bytes.ensures) (put.used, put.stands, put.beside)))
    New c.bring-in-Ok.result Asks c.bring-in-Ok.ensures.called

pub returns-in-Err-clause-called : goal.returns-in-Err-clause-called
returns-in-Err-clause-called g c =
    let came = c.args.came.now in
    let reception = c.args.reception.now in
    let was = c.args.shelf.now in
    let shelf = c.put.new.self in
    let Comes : Option (List ℕ) → Type 0 =
    IsPut (shelf ≡ was) (g.B.Shelf.uses was) (g.B.Shelf.uses shelf) (g.B.Shelf.stands shelf)
    (g.B.Shelf.apart (g.B.Shelf.named c.args.shelf.now)) came.body.now in
    let s = state g.S.Store c.args.conn.now in
    let Asks : Trees → Type 0 =
    λ base. FitsTables reception.taking came.caller.now came.instance.now c.args.targets.now.to
    c.args.targets.now.keep reception.again.now reception.dests.now reception.keeps base in
    let P : LedgerFault → Type 0 = λ e. ReceivesAs Comes New came (Err e) s s Asks in
    subst P (sym c.shelf_fault.ensures)
    (not_brought Comes came s Asks New (fault_of_shelf c.in-Err.fault) c.requires.delivered
    (own_fault c.in-Err.fault))

pub returns-in-Ok-clause-keeps : goal.returns-in-Ok-clause-keeps
returns-in-Ok-clause-keeps g c = λ cell used. (
  c.put.ensures.uses cell used,
  λ bytes stood. (c.put.ensures.keeps cell bytes used stood).1,
)

pub returns-in-Err-clause-keeps : goal.returns-in-Err-clause-keeps
returns-in-Err-clause-keeps g c = λ cell used. (
  c.put.ensures.uses cell used,
  λ bytes stood. (c.put.ensures.keeps cell bytes used stood).1,
)
