use Rattle.std.proofs.Common.{◌∙◌, refl}
use Rattle.sqlite.specs.Held.{state}
use Rattle.dr_store_open.proofs.Filling.{survives_both, survives_still}
use Rattle.dr_store_open.proofs.older.made_prints.Goals as goal

pub loop-key-init : goal.loop-key-init
loop-key-init g c = (refl, survives_still (state g.S.Store c.args.tx.now.conn.now))

pub loop-key-preserved : goal.loop-key-preserved
loop-key-preserved g c = (
  c.in_ok-made_print.ensures.same_reference ∙ c.loop-key.invariant.0,
  survives_both (state g.S.Store c.args.tx.now.conn.now) (state g.S.Store c.loop-key.tx.conn.now) (state g.S.Store c.made_print.new.tx.conn.now) c.loop-key.invariant.1 c.in_ok-made_print.ensures.survives,
)
