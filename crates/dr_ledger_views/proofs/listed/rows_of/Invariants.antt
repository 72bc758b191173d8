use Rattle.std.proofs.Common.{◌≡◌, take}
use Rattle.dr_ledger_views.specs.Views.{rows_of}
use Rattle.dr_ledger_views.proofs.listed.rows_of.Given as goal

abbrev pub invariant-loop-row : goal.invariant-loop-row
invariant-loop-row l = l.all ≡ rows_of (take l.row-index l.fn.rows) l.fn.uid
