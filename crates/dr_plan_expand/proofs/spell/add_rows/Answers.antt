use Rattle.std.proofs.Common.{◌∙◌}
use Rattle.dr_plan_expand.specs.Spelling.{row_text}
use Rattle.dr_plan_expand.proofs.Grown.{grown}
use Rattle.dr_plan_expand.proofs.spell.add_rows.Goals as goal

pub loop-row-preserved : goal.loop-row-preserved
loop-row-preserved c =
    grown row_text c.args.rows.now c.loop-row.row-index c.row-item.result c.args.out.now.items c.loop-row.out.items _ _ c.loop-row-test.true c.row-item.is c.loop-row.invariant
    (c.as_slice.ensures.value ∙ c.in_ok-text.ensures) c.in_ok-extend_from_slice.ensures.items
