use Rattle.std.proofs.Common.{◌∙◌, ◌++◌, ap, sym}
use Rattle.dr_ledger_memory.specs.Contents.{kept_list}
use Rattle.dr_ledger_memory.proofs.Lists.{append_nil, listed_kept}
use Rattle.dr_ledger_memory.proofs.ledger.MemoryLedger.all_kept.Goals as goal

pub returns : goal.returns
returns c =
    let all = c.loop-uid.all in
    let l = c.args.self.now in
    listed_kept l.parts l.ordered all (sym (append_nil all) ∙ (ap (λ rest. all ++ kept_list rest) (sym c.in-None.ensures.steps.0) ∙ c.loop-uid.invariant))
