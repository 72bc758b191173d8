use Rattle.std.proofs.Common.{◌∙◌, ap, sym}
use Rattle.std.specs.FinSet as set
use Rattle.dr_ledger_memory.specs.Contents.{content}
use Rattle.dr_ledger_memory.proofs.ledger.MemoryLedger.take.Goals as goal

pub repeat-requires-clause-again : goal.repeat-requires-clause-again
repeat-requires-clause-again c =
    let p = c.args.self.now.parts in
    sym (c.in_ok-has.ensures ∙ ap (λ u. set.contains (content p).arrivals (c.args.caller.now, u)) c.uid.ensures) ∙ c.if-has.true

pub bring-requires-clause-first : goal.bring-requires-clause-first
bring-requires-clause-first c =
    let p = c.args.self.now.parts in
    sym (c.in_ok-has.ensures ∙ ap (λ u. set.contains (content p).arrivals (c.args.caller.now, u)) c.uid.ensures) ∙ c.if-has.false
