use Rattle.std.proofs.Common.{◌≡◌, ◌∙◌, ℕ, List, Option, Some, None, Vec, Global, Err, subst, sym, ap}
use Rattle.dr_ledger.specs.declared.content.NextRow.{NextRow}
use Rattle.dr_ledger.specs.declared.fault.LedgerFault.{LedgerFault}
use Rattle.dr_ledger.specs.Replies.{Reads}
use Rattle.dr_store_reads.proofs.Outcomes.{reads_map}
use Rattle.dr_store_shelf.specs.Shelves.{items_of}
use Rattle.dr_store.specs.Reading.{IsHandedOut}
use Rattle.dr_store.proofs.Again.{handed_out, none_handed_out}
use Rattle.dr_store.proofs.Looks.{shelf_reads}
use Rattle.dr_store.proofs.due.read_by.Goals as goal

pub returns-in-Ok-Some-clause-read : goal.returns-in-Ok-Some-clause-read
returns-in-Ok-Some-clause-read g c =
    let was = c.args.shelf.now in
    let due = c.args.due in
    let cell = c.into_vec.result.items in
    let cell_is : cell ≡ due.cell = c.into_vec.ensures in
    let Used = g.B.Shelf.uses was in
    let read_of = g.B.Shelf.read_of was in
    let If : Option (Vec ℕ Global) → Type 0 = λ o. items_of o ≡ read_of cell in
    reads_map c.read_again.result (λ found says clean used.
    let got : Some c.in-Ok-Some.found.items ≡ read_of cell = subst If c.in-Ok-Some.field-0-is (c.in-Ok-Some.ensures.read clean (subst Used (sym cell_is) used)) in
    handed_out read_of due c.from_vec.result found (ap read_of (sym cell_is) ∙ sym got ∙ ap Some (sym c.from_vec.ensures)) says) c.read_again.ensures

pub returns-in-Ok-None-clause-read : goal.returns-in-Ok-None-clause-read
returns-in-Ok-None-clause-read g c clean used =
    let was = c.args.shelf.now in
    let due = c.args.due in
    let cell = c.into_vec.result.items in
    let cell_is : cell ≡ due.cell = c.into_vec.ensures in
    let Used = g.B.Shelf.uses was in
    let read_of = g.B.Shelf.read_of was in
    let If : Option (Vec ℕ Global) → Type 0 = λ o. items_of o ≡ read_of cell in
    let none : None ≡ read_of cell = subst If c.in-Ok-None.field-0-is (c.in-Ok-None.ensures.read clean (subst Used (sym cell_is) used)) in
    none_handed_out read_of due c.unread.result (ap read_of (sym cell_is) ∙ sym none) c.unread.ensures

pub returns-in-Err-clause-read : goal.returns-in-Err-clause-read
returns-in-Err-clause-read g c =
    let was = c.args.shelf.now in
    let Says : NextRow → Type 0 = λ found. g.B.Shelf.is_clean c.look.new.self → g.B.Shelf.uses was c.args.due.cell → IsHandedOut (g.B.Shelf.read_of was) c.args.due found in
    let P : LedgerFault → Type 0 = λ e. Reads {A = NextRow} (Err e) Says in
    subst P (sym c.shelf_fault.ensures) (shelf_reads c.in-Err.fault Says)

pub returns-in-Ok-Some-clause-keeps : goal.returns-in-Ok-Some-clause-keeps
returns-in-Ok-Some-clause-keeps g c = λ cell used. (c.look.ensures.uses cell used, λ bytes stood. (c.look.ensures.keeps cell bytes used stood).1)

pub returns-in-Ok-None-clause-keeps : goal.returns-in-Ok-None-clause-keeps
returns-in-Ok-None-clause-keeps g c = λ cell used. (c.look.ensures.uses cell used, λ bytes stood. (c.look.ensures.keeps cell bytes used stood).1)

pub returns-in-Err-clause-keeps : goal.returns-in-Err-clause-keeps
returns-in-Err-clause-keeps g c = λ cell used. (c.look.ensures.uses cell used, λ bytes stood. (c.look.ensures.keeps cell bytes used stood).1)
