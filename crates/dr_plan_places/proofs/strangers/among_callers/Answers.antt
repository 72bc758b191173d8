use Rattle.dr_plan_expand.specs.Seen.{seen}
use Rattle.dr_plan_places.proofs.Unknowing.{in_callers}
use Rattle.dr_plan_places.proofs.strangers.among_callers.Goals as goal

pub returns-in-Listed : goal.returns-in-Listed
returns-in-Listed c = in_callers (seen c.args.tables) c.args.from.now _ _ c.in-Listed.is c.as_slice.ensures c.stranger_among.result c.stranger_among.ensures
