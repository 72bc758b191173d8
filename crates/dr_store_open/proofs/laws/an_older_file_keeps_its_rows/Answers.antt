use Rattle.sqlite.specs.Held.{state}
use Rattle.dr_store_open.proofs.Left.{kept_or_before}
use Rattle.dr_store_open.proofs.laws.an_older_file_keeps_its_rows.Goals as goal

pub returns : goal.returns
returns g c part left older =
    kept_or_before part (state g.S.Store c.args.before.now) (state g.S.Store c.args.after.now) left.crash older
