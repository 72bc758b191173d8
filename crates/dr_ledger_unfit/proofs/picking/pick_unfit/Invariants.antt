use Rattle.std.proofs.Common.{take}
use Rattle.dr_ledger_history.specs.Contents.{content}
use Rattle.dr_ledger_unfit.specs.Unfit.{ArePicked, IsFitRow, IsUnfitRow}
use Rattle.dr_ledger_unfit.proofs.picking.pick_unfit.Given as goal

-- the unfit ones of the rows so far
abbrev pub invariant-loop-row : goal.invariant-loop-row
invariant-loop-row l = ArePicked (IsUnfitRow l.next.plan l.name (content l.history.parts).items) (IsFitRow l.next.plan l.name (content l.history.parts).items) (take l.row-index l.rows) l.found.items
