use Rattle.std.proofs.Common.{take}
use Rattle.std.specs.List.{AllByRecursion}
use Rattle.dr_store_reads.specs.Queries.{IsNumberedBelow}
use Rattle.dr_store_lists.proofs.rowids.are_below.Given as goal

abbrev pub invariant-loop-row : goal.invariant-loop-row
invariant-loop-row l = AllByRecursion (IsNumberedBelow l.next) (take l.row-index l.rows)
