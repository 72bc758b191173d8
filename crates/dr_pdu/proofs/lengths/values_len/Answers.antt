use Rattle.std.proofs.Common.{arith}
use Rattle.dr_pdu.proofs.Parts.{value_here}
use Rattle.dr_pdu.proofs.lengths.values_len.Goals as goal

pub returns-then-fragment-gt-LONGEST_TRANSFER : goal.returns-then-fragment-gt-LONGEST_TRANSFER
returns-then-fragment-gt-LONGEST_TRANSFER c = λ h.
    omega (arith, h, value_here c.args.pdvs.now c.loop-pdv.pdv-index c.pdv-item.result c.loop-pdv-test.true c.pdv-item.is)

pub returns-then-len-gt-LONGEST_TRANSFER : goal.returns-then-len-gt-LONGEST_TRANSFER
returns-then-len-gt-LONGEST_TRANSFER c = λ h.
    omega (arith, h, value_here c.args.pdvs.now c.loop-pdv.pdv-index c.pdv-item.result c.loop-pdv-test.true c.pdv-item.is)
