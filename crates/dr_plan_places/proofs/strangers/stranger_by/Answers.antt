use Rattle.dr_plan_expand.specs.Seen.{seen}
use Rattle.dr_plan_places.proofs.Unknowing.{none_found}
use Rattle.dr_plan_places.proofs.strangers.stranger_by.Goals as goal

pub returns-in-None : goal.returns-in-None
returns-in-None c =
    none_found (seen c.args.tables) c.args.short.now _ _ c.as_slice.ensures c.as_slice-2.ensures (rw c.in_default.is at c.in_ok-node.ensures) (rw c.in-None.is at c.in_ok-flow.ensures)
