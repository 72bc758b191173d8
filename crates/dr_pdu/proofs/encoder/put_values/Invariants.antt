use Rattle.std.proofs.Common.{◌≡◌, ◌++◌, take}
use Rattle.std.specs.List.{flat_map}
use Rattle.dr_pdu.specs.Items.{pdv_text}
use Rattle.dr_pdu.proofs.encoder.put_values.Given as goal

abbrev pub invariant-loop-pdv : goal.invariant-loop-pdv
invariant-loop-pdv l = l.out.items ≡ l.fn.out.items ++ flat_map pdv_text (take l.pdv-index l.pdvs)
