use Rattle.std.proofs.Common.{◌++◌, List, Option, Some, Ok, ℕ, subst, sym}
use Rattle.dr_desk.specs.declared.receipt.Receipt.{Receipt}
use Rattle.dr_run_control.specs.Consoles.{State}
use Rattle.dr_run_serve.specs.Pasts.{IsKnown, TellsPage}
use Rattle.dr_run_serve.specs.Sweeps.{ForgetsDue}
use Rattle.dr_run_serve.specs.declared.past.Past.{Past}
use Rattle.dr_run_serve.specs.declared.sweep.OverInstance.{OverInstance}
use Rattle.dr_run_serve.specs.declared.sweep.Sweep.{Sweep}
use Rattle.dr_run_serve.proofs.sweeper.Sweeper.sweep.Goals as goal

pub returns-clause-sweeps : goal.returns-clause-sweeps
returns-clause-sweeps g c = λ lines had.
    let tells = TellsPage g.L.Ledger.site g.L.Ledger.book g.L.Ledger.bodies g.L.Ledger.stands g.L.Ledger.failed g.B.Sharing.site g.B.Sharing.first g.L.Views.numbered in
    let sweep = c.in-Ok-Some.sweep in
    let P : Option Sweep → Type 0 = λ o. IsKnown tells lines c.replace-had.result (Ok o) c.known.new.past in
    let one : P (Some sweep) = subst P c.in-Ok-Some.field-0-is (c.in-Ok-Some.ensures lines had) in
    let Q : Option Sweep → Type 0 = λ o. IsKnown tells lines o (Ok (Some sweep)) c.known.new.past in
    let two : Q c.args.self.now.sweep = subst Q c.replace-had.ensures.value one in
    let R : Past → Type 0 = λ p. IsKnown tells lines c.args.self.now.sweep (Ok (Some sweep)) p in
    let known : R c.put.new.self.past = subst R (sym c.put.ensures.past) two in
    let s : State = (c.args.self.now.pass.made.count, c.args.self.now.pass.receipts.items) in
    let more = c.take_in.ensures.0 in
    let F : List OverInstance → ℕ → List Receipt → Type 0 = λ queue n receipts.
    ForgetsDue g.L.Ledger.site g.L.Ledger.book g.L.Ledger.stands g.L.Ledger.failed g.B.Sharing.site g.B.Sharing.first c.args.since queue s c.forget_due-came.result c.forget_due-came.new.sweep.queue.items (n, receipts) in
    let count = c.forget_due-came.new.pass.made.count in
    let receipts = c.forget_due-came.new.pass.receipts.items in
    let all : F (sweep.queue.items ++ more) count receipts = subst (λ (queue : List OverInstance). F queue count receipts) c.take_in.ensures.1 c.forget_due-came.ensures in
    let counted : F (sweep.queue.items ++ more) c.put.new.self.pass.made.count receipts = subst (λ n. F (sweep.queue.items ++ more) n receipts) (sym c.put.ensures.pass.0) all in
    let noted : F (sweep.queue.items ++ more) c.put.new.self.pass.made.count c.put.new.self.pass.receipts.items =
    subst (λ (rs : List Receipt). F (sweep.queue.items ++ more) c.put.new.self.pass.made.count rs) (sym c.put.ensures.pass.1) counted in
    (Ok (Some sweep), known, (more, c.forget_due-came.new.sweep, noted, c.put.ensures.sweep))
