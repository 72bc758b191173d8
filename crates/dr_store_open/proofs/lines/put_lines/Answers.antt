use Rattle.std.proofs.Common.{◌∙◌, refl}
use Rattle.sqlite.specs.Held.{state}
use Rattle.dr_store_open.proofs.Filling.{survives_both, survives_still}
use Rattle.dr_store_open.proofs.lines.put_lines.Goals as goal

pub loop-line-init : goal.loop-line-init
loop-line-init g c = (refl, survives_still (state g.S.Store c.args.tx.now.conn.now))

pub loop-line-preserved : goal.loop-line-preserved
loop-line-preserved g c = (
  c.in_ok-put_line.ensures.same_reference ∙ c.loop-line.invariant.0,
  survives_both (state g.S.Store c.args.tx.now.conn.now) (state g.S.Store c.loop-line.tx.conn.now) (state g.S.Store c.put_line.new.tx.conn.now) c.loop-line.invariant.1 c.in_ok-put_line.ensures.survives,
)
