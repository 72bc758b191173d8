use Rattle.std.proofs.Common.{take}
use Rattle.dr_pdu.specs.Items.{bodies}
use Rattle.dr_pdu.specs.Reads.{items}
use Rattle.dr_base.specs.Lists.{Each}
use Rattle.dr_pdu.proofs.associate.contexts_of.Given as goal

abbrev pub invariant-loop-item : goal.invariant-loop-item
invariant-loop-item g l = Each g.C.Context.is_context (bodies l.kind (items (take l.item-index l.found))) l.contexts.items
