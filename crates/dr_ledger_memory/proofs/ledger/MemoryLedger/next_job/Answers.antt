use Rattle.std.proofs.Common.{◌∙◌, sym, subst}
use Rattle.dr_base.specs.Texts.{Text}
use Rattle.dr_ledger_memory.specs.Changes.{at}
use Rattle.dr_ledger_memory.specs.Jobs.{IsJobOf}
use Rattle.dr_ledger_memory.proofs.Jobs.{found, key_of, none_next, next_is, no_key}
use Rattle.dr_ledger_memory.proofs.ledger.MemoryLedger.next_job.Goals as goal

pub returns-in_default : goal.returns-in_default
returns-in_default c =
    let l = c.args.self.now in
    let e = c.in_ok-uid.ensures in
    none_next l.site l.parts l.ordered l.sound e.ordered c.args.dest.now c.args.now
    (no_key (found l.site l.parts l.ordered l.sound e.ordered c.args.dest.now c.args.now) (sym c.in_default.is ∙ e.first))

pub returns-in-Ok : goal.returns-in-Ok
returns-in-Ok c =
    let l = c.args.self.now in
    let e = c.in_ok-uid.ensures in
    let k = key_of (found l.site l.parts l.ordered l.sound e.ordered c.args.dest.now c.args.now) c.in-Some.uid (sym c.in-Some.is ∙ e.first) in
    let P : Text → Type 0 = λ u. IsJobOf (at l.parts.held u) u c.in-Ok.job in
    next_is l.site l.parts l.ordered l.sound e.ordered c.args.dest.now c.args.now k.0 k.1 c.in-Ok.job (subst P (sym k.2) c.in-Ok.ensures)
