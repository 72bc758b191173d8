use Rattle.std.proofs.Common.{◌≡◌, ◌+◌, take, filter, length}
use Rattle.dr_ledger_views.specs.Views.{is_wanted}
use Rattle.dr_ledger_views.proofs.listed.page_of.Given as goal

abbrev pub invariant-loop-row : goal.invariant-loop-row
invariant-loop-row l =
    (l.all ≡ filter (is_wanted l.fn.dest l.fn.stage l.fn.after) (take l.row-index l.fn.rows))
    × (length (filter (is_wanted l.fn.dest l.fn.stage l.fn.after) (take l.row-index l.fn.rows)) + l.left ≡ l.fn.limit)
