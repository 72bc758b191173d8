use Rattle.dr_run_serve.proofs.ages.WaitingRows.note_gone.Goals as goal

pub returns-in_default-clause-moments : goal.returns-in_default-clause-moments
returns-in_default-clause-moments c = λ q. c.remove_entry.ensures.updates.0 q

pub returns-clause-moments : goal.returns-clause-moments
returns-clause-moments c = λ q. c.remove_entry.ensures.updates.0 q
