use Rattle.dr_world_model.proofs.Orderly.{numbers_are_fresh, links_are_hops, nothing_goes_back}
use Rattle.dr_world_model.proofs.laws.numbers_are_fresh.Goals as goal

pub returns-clause-fresh : goal.returns-clause-fresh
returns-clause-fresh c = numbers_are_fresh

pub returns-clause-hops : goal.returns-clause-hops
returns-clause-hops c = links_are_hops

pub returns-clause-onwards : goal.returns-clause-onwards
returns-clause-onwards c = nothing_goes_back
