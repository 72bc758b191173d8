use Rattle.std.proofs.Common.{ap, slice_get}
use Rattle.dr_ledger_history.proofs.Leaving.{first_from}
use Rattle.dr_ledger_history.proofs.letting.caller_from.Goals as goal

pub returns : goal.returns
returns c =
    let first = ap (λ r. slice_get r 0) c.in-Some.ensures.steps in
    first_from c.args.arrivals.now (c.in_ok-clone.field-0, c.empty.result) c.args.from.now
    c.in_ok-clone.ensures c.empty.ensures c.range-rest.result (c.range-rest.ensures.in_range tt)
    c.in-Some.first.now c.in_ok-caller.caller first c.in_ok-caller.ensures
