use Rattle.std.proofs.Common.{take}
use Rattle.std.specs.List.{AllByRecursion}
use Rattle.dr_store_reads.specs.Queries.{IsCountedAsShown}
use Rattle.dr_store_lists.proofs.rowids.are_counted.Given as goal

abbrev pub invariant-loop-row : goal.invariant-loop-row
invariant-loop-row l = AllByRecursion IsCountedAsShown (take l.row-index l.rows)
