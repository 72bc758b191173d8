use Rattle.sqlite.specs.Held.{state}
use Rattle.dr_store_open.proofs.Left.{empty_or_before}
use Rattle.dr_store_open.proofs.laws.a_new_file_has_no_rows.Goals as goal

pub returns : goal.returns
returns g c part left blank =
    empty_or_before part (state g.S.Store c.args.before.now) (state g.S.Store c.args.after.now) left.crash blank
