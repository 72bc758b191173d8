use Rattle.std.proofs.Common.{◌∙◌, sym}
use Rattle.dr_ledger_views.specs.Views.{is_wanted}
use Rattle.dr_ledger_views.proofs.Pages.{ended, full}
use Rattle.dr_ledger_views.proofs.listed.page_of.Goals as goal

pub returns-then-left-eq0 : goal.returns-then-left-eq0
returns-then-left-eq0 c =
    c.loop-row.invariant.0
    ∙ sym (full (is_wanted c.args.dest.now c.args.stage c.args.after.now) c.args.rows.now c.loop-row.row-index c.loop-row.left c.args.limit c.if-left-eq0.true c.loop-row.invariant.1)

pub returns : goal.returns
returns c =
    c.loop-row.invariant.0
    ∙ sym (ended (is_wanted c.args.dest.now c.args.stage c.args.after.now) c.args.rows.now c.loop-row.row-index c.loop-row.left c.args.limit c.loop-row-test.false c.loop-row.invariant.1)
