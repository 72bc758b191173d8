use Rattle.std.proofs.Common.{length}
use Rattle.dr_pdu.specs.Items.{StartsPduItem}
use Rattle.dr_pdu.specs.Reads.{items}
use Rattle.dr_base.specs.Runs.{Run}
use Rattle.dr_pdu.proofs.items.items_of.Given as goal

abbrev pub invariant-loop-rest : goal.invariant-loop-rest
invariant-loop-rest l = Run StartsPduItem (items l.found.items) l.text l.rest

abbrev pub decreases-loop-rest : goal.decreases-loop-rest
decreases-loop-rest l = length l.rest
