use Rattle.dr_run_serve.proofs.shutting.is_shut.Goals as goal

pub returns : goal.returns
returns g c = (c.name.result.now, c.has.result, c.has.ensures, c.is_store_fault.ensures)
