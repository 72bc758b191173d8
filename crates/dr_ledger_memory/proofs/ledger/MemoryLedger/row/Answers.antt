use Rattle.std.proofs.Common.{◌∙◌, ap, sym}
use Rattle.dr_ledger_memory.specs.Entries.{row_in}
use Rattle.dr_ledger_memory.proofs.Lookups.{row_at}
use Rattle.dr_ledger_memory.proofs.ledger.MemoryLedger.row.Goals as goal

pub returns-in_default : goal.returns-in_default
returns-in_default c =
    let l = c.args.self.now in
    sym (row_at l.parts l.ordered c.args.uid.now c.args.dest.now ∙ ap (λ o. row_in o c.args.dest.now) (sym c.in_default.ensures.value))

pub returns : goal.returns
returns c =
    let l = c.args.self.now in
    c.row.ensures ∙ sym (row_at l.parts l.ordered c.args.uid.now c.args.dest.now ∙ ap (λ o. row_in o c.args.dest.now) (sym c.in-Some.ensures.value))
