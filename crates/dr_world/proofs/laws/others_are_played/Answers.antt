use Rattle.dr_world.proofs.Among.{fit_scripts_are_own_runs, fit_scripts_keep_the_claims, names_are_looked_at}
use Rattle.dr_world.proofs.Scanners.{scripts_fit}
use Rattle.dr_world.proofs.laws.others_are_played.Goals as goal

pub returns-clause-runs : goal.returns-clause-runs
returns-clause-runs g c = fit_scripts_are_own_runs

pub returns-clause-claims : goal.returns-clause-claims
returns-clause-claims g c = fit_scripts_keep_the_claims c.args._world.now

pub returns-clause-names : goal.returns-clause-names
returns-clause-names g c = names_are_looked_at

pub returns-clause-scripts : goal.returns-clause-scripts
returns-clause-scripts g c = scripts_fit
