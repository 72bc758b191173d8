use Rattle.std.proofs.Common.{◌∙◌, refl}
use Rattle.sqlite.specs.Held.{state}
use Rattle.dr_store_open.proofs.Filling.{survives_both, survives_still}
use Rattle.dr_store_open.proofs.asking.add_rows.Goals as goal

pub loop-row-init : goal.loop-row-init
loop-row-init g c = (refl, survives_still (state g.S.Store c.args.tx.now.conn.now))

pub loop-row-preserved : goal.loop-row-preserved
loop-row-preserved g c = (
  c.in_ok-add_row.ensures.same_reference ∙ c.loop-row.invariant.0,
  survives_both (state g.S.Store c.args.tx.now.conn.now) (state g.S.Store c.loop-row.tx.conn.now) (state g.S.Store c.add_row.new.tx.conn.now) c.loop-row.invariant.1 c.in_ok-add_row.ensures.survives,
)
