use Rattle.std.proofs.Common.{arith, ap, length, List, ℕ}
use Rattle.dr_pdu.proofs.Parts.{value_here}
use Rattle.dr_pdu.proofs.encoder.put_values.Goals as goal

pub put_value-requires : goal.put_value-requires
put_value-requires c =
    let e = ap (λ (b : List ℕ). length b) c.as_bytes.ensures in
    omega (arith, e, value_here c.args.pdvs.now c.loop-pdv.pdv-index c.pdv-item.result c.loop-pdv-test.true c.pdv-item.is)
