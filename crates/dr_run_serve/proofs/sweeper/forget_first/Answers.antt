use Rattle.std.proofs.Common.{subst, Ok, Err}
use Rattle.dr_base.specs.Texts.{Text}
use Rattle.dr_desk.specs.declared.receipt.Call.TheVariants.{Forgetting}
use Rattle.dr_ledger.specs.Replies.{Forgets}
use Rattle.dr_ledger.specs.declared.fault.LedgerFault.{LedgerFault}
use Rattle.dr_ledger.specs.declared.fault.LedgerFault.TheVariants as fault
use Rattle.dr_run_control.specs.Consoles.{Calls}
use Rattle.dr_run_serve.proofs.sweeper.forget_first.Goals as goal

pub returns-in-Ok : goal.returns-in-Ok
returns-in-Ok g c =
    let due = c.in-Some.ensures.due in
    let P : Text → Type 0 = λ uid. Calls g.L.Ledger.site g.L.Ledger.book g.L.Ledger.stands g.L.Ledger.failed g.B.Sharing.site g.B.Sharing.first (Forgets uid) (Forgetting uid) (Ok (tt {0}))
    c.args.pass.now.made.count c.args.pass.now.receipts.items c.forget.new.pass.made.count c.forget.new.pass.receipts.items in
    (due.0, c.let_first_go.ensures due.0 due.1 due.2, record { long = due.3; asked = subst P due.4 (c.in-Ok.ensures.answer, c.in-Ok.ensures.pass) })

pub returns-in-Err-NotOver : goal.returns-in-Err-NotOver
returns-in-Err-NotOver g c =
    let due = c.in-Some.ensures.due in
    let P : LedgerFault → Text → Type 0 = λ why uid. Calls g.L.Ledger.site g.L.Ledger.book g.L.Ledger.stands g.L.Ledger.failed g.B.Sharing.site g.B.Sharing.first (Forgets uid) (Forgetting uid) (Err why)
    c.args.pass.now.made.count c.args.pass.now.receipts.items c.forget.new.pass.made.count c.forget.new.pass.receipts.items in
    let refused : P fault.NotOver c.in-Some.uid.now = subst (λ why. P why c.in-Some.uid.now) c.in-Err-NotOver.field-0-is (c.in-Err-NotOver.ensures.answer, c.in-Err-NotOver.ensures.pass) in
    (due.0, c.let_first_go-in-Err-NotOver.ensures due.0 due.1 due.2, record { long = due.3; asked = subst (P fault.NotOver) due.4 refused })
