use Rattle.std.proofs.Common.{◌∙◌, ◌++◌, ap, sym}
use Rattle.dr_ledger_memory.specs.Contents.{all_rows}
use Rattle.dr_ledger_memory.proofs.Lists.{append_nil, listed_rows}
use Rattle.dr_ledger_memory.proofs.ledger.MemoryLedger.all_rows.Goals as goal

pub returns : goal.returns
returns c =
    let all = c.loop-uid.all in
    let l = c.args.self.now in
    listed_rows l.parts all l.ordered (sym (append_nil all) ∙ (ap (λ rest. all ++ all_rows rest) (sym c.in-None.ensures.steps.0) ∙ c.loop-uid.invariant))
