use Rattle.dr_store_calls.proofs.Owners.{both_behind, none_behind, too_short}
use Rattle.dr_store_calls.proofs.owning.mark_behind.Goals as goal

pub returns-in_default : goal.returns-in_default
returns-in_default c = too_short c.args.cell.now c.in_default.ensures.cases

pub returns-in-None : goal.returns-in-None
returns-in-None c = none_behind c.args.cell.now _ c.in-Some.rest.now c.in-Some.ensures.cases c.in-None.ensures

pub returns-in-Some-split_rest : goal.returns-in-Some-split_rest
returns-in-Some-split_rest c = (_, both_behind c.args.cell.now _ c.in-Some.rest.now c.in-Some.ensures.cases c.in-Some-split_rest.mark.now c.in-Some-split_rest.seal.now c.in-Some-split_rest.ensures)
