use Rattle.dr_pdu.proofs.Behind.{further}
use Rattle.dr_pdu.proofs.encoder.put_contexts.Goals as goal

pub returns-in_err-put_item-clause-err : goal.returns-in_err-put_item-clause-err
returns-in_err-put_item-clause-err g c = further c.from_residual-in_err-put_item.result _ _ _ _ c.loop-context.invariant c.in_err-put_item.ensures.err
