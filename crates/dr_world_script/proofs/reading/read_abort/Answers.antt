use Rattle.dr_world_script.proofs.reading.read_abort.Goals as goal

pub returns-in-None : goal.returns-in-None
returns-in-None c = λ step told. c.in-None.ensures told.0 told.1 told.3
