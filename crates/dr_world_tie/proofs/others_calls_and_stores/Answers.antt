use Rattle.dr_world_tie.proofs.Foreigners.{acceptors_begin, nothing_unheard_is_stored, ours_are_not_foreign, requests_are_answered, stores_are_brought}
use Rattle.dr_world_tie.proofs.others_calls_and_stores.Goals as goal

pub returns-clause-fresh : goal.returns-clause-fresh
returns-clause-fresh c = acceptors_begin

pub returns-clause-answered : goal.returns-clause-answered
returns-clause-answered c = requests_are_answered

pub returns-clause-brought : goal.returns-clause-brought
returns-clause-brought c = stores_are_brought

pub returns-clause-unheard : goal.returns-clause-unheard
returns-clause-unheard c = nothing_unheard_is_stored

pub returns-clause-own : goal.returns-clause-own
returns-clause-own c = ours_are_not_foreign
