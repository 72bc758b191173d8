use Rattle.sqlite.specs.Held.{state}
use Rattle.dr_store_open.proofs.Stops.{calls_are_stopped}
use Rattle.dr_store_open.proofs.laws.calls_are_stopped.Goals as goal

pub returns : goal.returns
returns g c =
    calls_are_stopped (state g.S.Store c.args.before.now) (state g.S.Store c.args.after.now)
