use Rattle.std.proofs.Common.{arith}
use Rattle.dr_pdu.specs.Fitting.{IsUnpadded}
use Rattle.dr_pdu.proofs.Parts.{name_here, name_more, all_names_more}
use Rattle.dr_pdu.proofs.lengths.names_len.Goals as goal

pub returns-then-more-ge65536 : goal.returns-then-more-ge65536
returns-then-more-ge65536 c = λ h.
    omega (arith, h.1, name_here c.args.names.now c.loop-name.name-index c.name-item.result c.loop-name-test.true c.name-item.is)

pub returns-then-len-ge65536 : goal.returns-then-len-ge65536
returns-then-len-ge65536 c = λ h.
    omega (arith, h.1, name_here c.args.names.now c.loop-name.name-index c.name-item.result c.loop-name-test.true c.name-item.is)

pub loop-name-preserved : goal.loop-name-preserved
loop-name-preserved c = (
  omega (arith, name_more c.args.names.now c.loop-name.name-index c.name-item.result c.loop-name-test.true c.name-item.is),
  c.if-len-ge65536.false,
  all_names_more IsUnpadded c.args.names.now c.loop-name.name-index c.name-item.result c.loop-name-test.true c.name-item.is c.loop-name.invariant.2 (c.is_unpadded.ensures.0 c.if-not-is_unpadded.false),
)
