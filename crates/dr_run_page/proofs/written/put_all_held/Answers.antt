use Rattle.std.proofs.Common.{◌∙◌, List, sym, ap, ◌++◌, flat_map}
use Rattle.std.specs.Prelude.{option_copied}
use Rattle.dr_ledger.specs.Pairs.{Pair}
use Rattle.dr_ledger.specs.declared.item.Progress.{Progress}
use Rattle.dr_run_page.specs.Documents.{held_row, is_held}
use Rattle.dr_run_page.proofs.Pages.{ended, full}
use Rattle.dr_run_page.proofs.written.put_all_held.Goals as goal

pub returns-then-left-eq0 : goal.returns-then-left-eq0
returns-then-left-eq0 c =
    c.loop-row.invariant.0
    ∙ ap (λ (page : List (Pair × Progress)). c.args.out.now.items ++ flat_map (held_row (option_copied c.args.key)) page)
    (sym (full is_held c.args.rows.now c.loop-row.row-index c.loop-row.left
    c.if-left-eq0.true c.loop-row.invariant.1))

pub returns : goal.returns
returns c =
    c.loop-row.invariant.0
    ∙ ap (λ (page : List (Pair × Progress)). c.args.out.now.items ++ flat_map (held_row (option_copied c.args.key)) page)
    (sym (ended is_held c.args.rows.now c.loop-row.row-index c.loop-row.left
    c.loop-row-test.false c.loop-row.invariant.1))
