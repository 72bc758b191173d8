use Rattle.std.proofs.Common.{◌≡◌, vec_len}
use Rattle.std.specs.FinMap as map
use Rattle.dr_ledger.specs.Pairs.{pair_cmp}
use Rattle.dr_ledger_history.specs.Trees.{as_map}
use Rattle.dr_ledger_balance.proofs.Onto.{onto}
use Rattle.dr_ledger_balance.proofs.trees.rows_tree.Given as goal

-- what is left, put into the tree, makes all
abbrev pub invariant-loop-row : goal.invariant-loop-row
invariant-loop-row l = onto (as_map pair_cmp l.tree) l.left.items ≡ map.from_entries l.fn.rows

abbrev pub decreases-loop-row : goal.decreases-loop-row
decreases-loop-row l = vec_len l.left
