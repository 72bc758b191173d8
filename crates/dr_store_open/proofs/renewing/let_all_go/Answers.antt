use Rattle.std.proofs.Common.{◌∙◌, refl}
use Rattle.sqlite.specs.Held.{state}
use Rattle.dr_store_open.proofs.Filling.{survives_both, survives_still}
use Rattle.dr_store_open.proofs.renewing.let_all_go.Goals as goal

pub loop-print-init : goal.loop-print-init
loop-print-init g c = (refl, survives_still (state g.S.Store c.args.tx.now.conn.now))

pub loop-print-preserved : goal.loop-print-preserved
loop-print-preserved g c = (
  c.in_ok-let_go.ensures.same_reference ∙ c.loop-print.invariant.0,
  survives_both (state g.S.Store c.args.tx.now.conn.now) (state g.S.Store c.loop-print.tx.conn.now) (state g.S.Store c.let_go.new.tx.conn.now) c.loop-print.invariant.1 c.in_ok-let_go.ensures.survives,
)
