use Rattle.dr_plan_expand.specs.Seen.{seen}
use Rattle.dr_plan_places.proofs.Unknowing.{flow_found}
use Rattle.dr_plan_places.proofs.strangers.InFlowsHunt.hunt.Goals as goal

pub returns : goal.returns
returns c =
    flow_found (seen c.args.self.now.0) c.args.flow.now _ _ _ c.as_slice.ensures c.as_slice-2.ensures c.as_slice-3.ensures
    (rw c.in_default.is at c.in_ok-found.ensures) (rw c.in_default-2.is at c.in_ok-found-2.ensures) c.stranger_among-3.result c.stranger_among-3.ensures
