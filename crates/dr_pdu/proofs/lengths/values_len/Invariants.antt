use Rattle.std.proofs.Common.{◌≡◌, ◌≤◌, length, take}
use Rattle.std.specs.List.{flat_map}
use Rattle.dr_pdu.specs.Items.{pdv_text}
use Rattle.dr_pdu.proofs.lengths.values_len.Given as goal

abbrev pub invariant-loop-pdv : goal.invariant-loop-pdv
invariant-loop-pdv l = (l.len ≡ length (flat_map pdv_text (take l.pdv-index l.pdvs))) × (l.len ≤ 134217728)
