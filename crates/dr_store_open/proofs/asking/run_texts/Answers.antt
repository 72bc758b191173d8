use Rattle.std.proofs.Common.{◌∙◌, refl}
use Rattle.sqlite.specs.Held.{state}
use Rattle.dr_store_open.proofs.Filling.{survives_both, survives_still}
use Rattle.dr_store_open.proofs.asking.run_texts.Goals as goal

pub loop-text-init : goal.loop-text-init
loop-text-init g c = (refl, survives_still (state g.S.Store c.args.tx.now.conn.now))

pub loop-text-preserved : goal.loop-text-preserved
loop-text-preserved g c = (
  c.in_ok-run_within.ensures.same_reference ∙ c.loop-text.invariant.0,
  survives_both (state g.S.Store c.args.tx.now.conn.now) (state g.S.Store c.loop-text.tx.conn.now) (state g.S.Store c.run_within.new.tx.conn.now) c.loop-text.invariant.1 c.in_ok-run_within.ensures.survives,
)
