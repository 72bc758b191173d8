use Rattle.std.proofs.Common.{arith, ap, length, List, ℕ}
use Rattle.dr_pdu.proofs.Behind.{further}
use Rattle.dr_pdu.proofs.Parts.{name_here}
use Rattle.dr_pdu.proofs.contexts.put_names.Goals as goal

pub put_item-requires : goal.put_item-requires
put_item-requires c =
    let e = ap (λ (b : List ℕ). length b) c.as_bytes.ensures in
    omega (arith, e, name_here c.args.names.now c.loop-name.name-index c.name-item.result c.loop-name-test.true c.name-item.is)

pub returns-in_err-put_item-clause-err : goal.returns-in_err-put_item-clause-err
returns-in_err-put_item-clause-err c = further c.from_residual.result _ _ _ _ c.loop-name.invariant c.in_err-put_item.ensures.err
