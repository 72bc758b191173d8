use Rattle.std.proofs.Common.{List, ℕ, inr, refl, ◌≡◌, Option}
use Rattle.sqlite.specs.Held.{state}
use Rattle.sqlite.specs.Tree.{Trees}
use Rattle.dr_ledger.specs.declared.fault.LedgerFault.TheVariants as fault
use Rattle.dr_ledger.specs.declared.item.Arrived.TheVariants.{New}
use Rattle.dr_store_calls.specs.Knowing.{FitsTables}
use Rattle.dr_store_calls.specs.Shelving.{IsPut}
use Rattle.dr_store_calls.proofs.Takings.{not_brought}
use Rattle.dr_store_calls.proofs.arriving.bring_item.Goals as goal

pub returns-in-Err-clause-called : goal.returns-in-Err-clause-called
returns-in-Err-clause-called g c =
    let came = c.args.came.now in
    let reception = c.args.reception.now in
    let shelf = c.args.shelf.now in
    let Uses = g.B.Shelf.uses shelf in
    let Comes : Option (List ℕ) → Type 0 =
    IsPut (shelf ≡ shelf) Uses Uses (g.B.Shelf.stands shelf) (g.B.Shelf.apart (g.B.Shelf.named c.args.shelf.now)) came.body.now in
    let Asks : Trees → Type 0 =
    λ base. FitsTables reception.taking came.caller.now came.instance.now c.args.targets.now.to
    c.args.targets.now.keep reception.again.now reception.dests.now reception.keeps base in
    not_brought Comes came (state g.S.Store c.args.conn.now) Asks New fault.Memory
    c.requires.delivered (inr refl)
