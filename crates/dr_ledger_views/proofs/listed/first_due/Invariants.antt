use Rattle.std.proofs.Common.{take}
use Rattle.dr_ledger_views.specs.Views.{IsLeast, dues}
use Rattle.dr_ledger_views.proofs.listed.first_due.Given as goal

abbrev pub invariant-loop-row : goal.invariant-loop-row
invariant-loop-row l = IsLeast (dues (take l.row-index l.fn.rows) l.fn.dest) l.least
