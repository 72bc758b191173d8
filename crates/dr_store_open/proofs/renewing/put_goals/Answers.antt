use Rattle.std.proofs.Common.{◌∙◌, refl}
use Rattle.sqlite.specs.Held.{state}
use Rattle.dr_store_open.proofs.Filling.{survives_both, survives_still}
use Rattle.dr_store_open.proofs.renewing.put_goals.Goals as goal

pub loop-target-init : goal.loop-target-init
loop-target-init g c = (refl, survives_still (state g.S.Store c.args.tx.now.conn.now))

pub loop-target-preserved : goal.loop-target-preserved
loop-target-preserved g c = (
  c.in_ok-put_goal.ensures.same_reference ∙ c.loop-target.invariant.0,
  survives_both (state g.S.Store c.args.tx.now.conn.now) (state g.S.Store c.loop-target.tx.conn.now) (state g.S.Store c.put_goal.new.tx.conn.now) c.loop-target.invariant.1 c.in_ok-put_goal.ensures.survives,
)
