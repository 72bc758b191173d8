use Rattle.std.proofs.Common.{◌≡◌, drop}
use Rattle.dr_ledger.specs.Books.{with_rows}
use Rattle.dr_ledger.specs.Pairs.{pair_cmp}
use Rattle.dr_ledger_history.specs.Trees.{as_map}
use Rattle.dr_ledger_history.proofs.trees.fill.Given as goal

abbrev pub invariant-loop-dest : goal.invariant-loop-dest
invariant-loop-dest l = with_rows (as_map pair_cmp l.rows) l.uid (drop l.dest-index l.to) ≡ with_rows (as_map pair_cmp l.fn.rows) l.uid l.to
