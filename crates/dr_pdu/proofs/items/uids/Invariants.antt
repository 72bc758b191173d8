use Rattle.std.proofs.Common.{◌≡◌, map, take}
use Rattle.dr_base.specs.Padding.{unpadded}
use Rattle.dr_pdu.specs.Items.{bodies}
use Rattle.dr_pdu.specs.Reads.{items}
use Rattle.dr_pdu.proofs.items.uids.Given as goal

abbrev pub invariant-loop-item : goal.invariant-loop-item
invariant-loop-item l = l.them.items ≡ map unpadded (bodies l.kind (items (take l.item-index l.found)))
