use Rattle.dr_store_open.proofs.Stops.{stopped_ledgers_are_held}
use Rattle.dr_store_open.proofs.laws.a_stopped_ledger_is_in_its_files.Goals as goal

pub returns : goal.returns
returns g c = stopped_ledgers_are_held c.args.before.now c.args.after.now
