use Rattle.std.proofs.Common.{◌∙◌, sym}
use Rattle.dr_ledger_memory.proofs.Ledgers.{needed_not_over, none_not_over, not_false, over_there, so_not}
use Rattle.dr_ledger_memory.proofs.ledger.MemoryLedger.is_over_with.Goals as goal

pub returns-in-Some : goal.returns-in-Some
returns-in-Some c =
    let l = c.args.self.now in
    let there = sym c.in-Some.ensures.value in (
      λ t. over_there l.parts l.ordered c.args.uid.now c.in-Some.entry.now there (sym c.needs_body.ensures ∙ not_false c.needs_body.result t),
      λ over. so_not c.needs_body.result (λ needed. needed_not_over l.parts l.ordered c.args.uid.now c.in-Some.entry.now there over (sym c.needs_body.ensures ∙ needed)),
    )

pub returns-in-None : goal.returns-in-None
returns-in-None c = (let l = c.args.self.now in (λ t. absurd (let e : ⊥ = cc in e), λ over. absurd (none_not_over l.parts l.ordered c.args.uid.now (sym c.in-None.ensures.value) over)))
