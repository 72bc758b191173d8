use Rattle.sqlite.specs.Held.{state}
use Rattle.dr_store_open.proofs.Left.{nothing_made}
use Rattle.dr_store_open.proofs.laws.another_file_stays.Goals as goal

pub returns-clause-crash : goal.returns-clause-crash
returns-clause-crash g c part left blank older =
    nothing_made part (state g.S.Store c.args.before.now) (state g.S.Store c.args.after.now) left.crash blank older

pub returns-clause-stays : goal.returns-clause-stays
returns-clause-stays g c part left blank older is_open = left.stays blank older is_open
