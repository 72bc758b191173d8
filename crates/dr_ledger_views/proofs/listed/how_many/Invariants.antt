use Rattle.std.proofs.Common.{◌≡◌, ◌≤◌, take, Some}
use Rattle.dr_ledger_views.specs.Views.{how_many}
use Rattle.dr_ledger_views.proofs.listed.how_many.Given as goal

abbrev pub invariant-loop-row : goal.invariant-loop-row
invariant-loop-row l = (l.count ≡ how_many (take l.row-index l.fn.rows) l.fn.dest (Some l.fn.stage)) × (l.count ≤ l.row-index)
