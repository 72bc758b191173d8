use Rattle.std.proofs.Common.{◌≤◌, refl, arith, Ok, Err}
use Rattle.dr_run_serve.specs.Pasts.{TellsPage}
use Rattle.dr_run_serve.proofs.Turning.{turns_early, turns_never, turns_swept}
use Rattle.dr_run_serve.proofs.sweeper.Sweeper.turn.Goals as goal

pub returns-in_default-clause-turns : goal.returns-in_default-clause-turns
returns-in_default-clause-turns g c = λ lines noted.
    turns_never g.L.Ledger.site g.L.Ledger.book g.L.Ledger.stands g.L.Ledger.failed g.B.Sharing.site g.B.Sharing.first
    (TellsPage g.L.Ledger.site g.L.Ledger.book g.L.Ledger.bodies g.L.Ledger.stands g.L.Ledger.failed g.B.Sharing.site g.B.Sharing.first g.L.Views.numbered) lines
    c.args.self.now.after c.args.self.now.next c.args.now c.args.self.now.sweep (c.args.self.now.pass.made.count, c.args.self.now.pass.receipts.items) c.args.self.now.past c.in_default.is noted

pub returns-in_default-clause-next : goal.returns-in_default-clause-next
returns-in_default-clause-next g c = (refl, refl)

pub returns-then-now-self-clause-turns : goal.returns-then-now-self-clause-turns
returns-then-now-self-clause-turns g c = λ lines noted.
    turns_early g.L.Ledger.site g.L.Ledger.book g.L.Ledger.stands g.L.Ledger.failed g.B.Sharing.site g.B.Sharing.first
    (TellsPage g.L.Ledger.site g.L.Ledger.book g.L.Ledger.bodies g.L.Ledger.stands g.L.Ledger.failed g.B.Sharing.site g.B.Sharing.first g.L.Views.numbered) lines
    c.args.self.now.after c.in-Some.after c.args.self.now.next c.args.now c.args.self.now.sweep (c.args.self.now.pass.made.count, c.args.self.now.pass.receipts.items) c.args.self.now.past c.in-Some.is c.if-now-self.true
    noted

pub returns-then-now-self-clause-next : goal.returns-then-now-self-clause-next
returns-then-now-self-clause-next g c = (refl, refl)

pub returns-in-Ok-clause-turns : goal.returns-in-Ok-clause-turns
returns-in-Ok-clause-turns g c = λ lines noted.
    let due : c.args.self.now.next ≤ c.args.now = (let test = c.if-now-self.false in omega (arith, test)) in
    turns_swept g.L.Ledger.site g.L.Ledger.book g.L.Ledger.stands g.L.Ledger.failed g.B.Sharing.site g.B.Sharing.first
    (TellsPage g.L.Ledger.site g.L.Ledger.book g.L.Ledger.bodies g.L.Ledger.stands g.L.Ledger.failed g.B.Sharing.site g.B.Sharing.first g.L.Views.numbered) lines
    c.args.self.now.after c.in-Some.after c.saturating_sub.result c.args.self.now.next c.args.now c.args.self.now.sweep (c.args.self.now.pass.made.count, c.args.self.now.pass.receipts.items) (Ok c.in-Ok.count)
    c.sweep.new.self.sweep c.sweep.new.self.past (c.sweep.new.self.pass.made.count, c.sweep.new.self.pass.receipts.items) c.in-Some.is c.saturating_sub.ensures due (c.in-Ok.ensures.sweeps lines noted)

pub returns-in-Ok-clause-next : goal.returns-in-Ok-clause-next
returns-in-Ok-clause-next g c = c.sweep.ensures.terms

pub returns-in-Err-clause-turns : goal.returns-in-Err-clause-turns
returns-in-Err-clause-turns g c = λ lines noted.
    let due : c.args.self.now.next ≤ c.args.now = (let test = c.if-now-self.false in omega (arith, test)) in
    turns_swept g.L.Ledger.site g.L.Ledger.book g.L.Ledger.stands g.L.Ledger.failed g.B.Sharing.site g.B.Sharing.first
    (TellsPage g.L.Ledger.site g.L.Ledger.book g.L.Ledger.bodies g.L.Ledger.stands g.L.Ledger.failed g.B.Sharing.site g.B.Sharing.first g.L.Views.numbered) lines
    c.args.self.now.after c.in-Some.after c.saturating_sub.result c.args.self.now.next c.args.now c.args.self.now.sweep (c.args.self.now.pass.made.count, c.args.self.now.pass.receipts.items) (Err c.in-Err.fault)
    c.sweep.new.self.sweep c.sweep.new.self.past (c.sweep.new.self.pass.made.count, c.sweep.new.self.pass.receipts.items) c.in-Some.is c.saturating_sub.ensures due (c.in-Err.ensures.sweeps lines noted)

pub returns-in-Err-clause-next : goal.returns-in-Err-clause-next
returns-in-Err-clause-next g c = (c.sweep.ensures.terms.0, c.saturating_add-self.ensures)
