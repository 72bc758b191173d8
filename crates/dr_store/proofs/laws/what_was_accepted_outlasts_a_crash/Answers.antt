use Rattle.dr_store.proofs.laws.what_was_accepted_outlasts_a_crash.Goals as goal

pub returns : goal.returns
returns g c wrote clean safe db left = wrote.durable clean safe db left
