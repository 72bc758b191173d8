use Rattle.dr_cert_text.proofs.Ascending.{AscendTo}
use Rattle.dr_cert_text.proofs.sorted.ascend.Given as goal

abbrev pub invariant-loop-i : goal.invariant-loop-i
invariant-loop-i l = AscendTo l.texts l.i
