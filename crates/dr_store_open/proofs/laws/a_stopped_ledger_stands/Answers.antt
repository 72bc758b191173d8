use Rattle.sqlite.specs.Held.{state}
use Rattle.dr_store_open.proofs.Stops.{stopped_ledgers_stand}
use Rattle.dr_store_open.proofs.laws.a_stopped_ledger_stands.Goals as goal

pub returns : goal.returns
returns g c =
    stopped_ledgers_stand (state g.S.Store c.args.before.now) (state g.S.Store c.args.after.now)
