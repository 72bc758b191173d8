use Rattle.dr_plan_expand.specs.Seen.{seen}
use Rattle.dr_plan_places.proofs.Unknowing.{row_found}
use Rattle.dr_plan_places.proofs.strangers.InRowsHunt.hunt.Goals as goal

pub returns : goal.returns
returns c =
    row_found (seen c.args.self.now.0) c.args.row.now _ c.as_slice.ensures (rw c.in_default.is at c.in_ok-found.ensures) c.stranger_among.result c.stranger_among.ensures
