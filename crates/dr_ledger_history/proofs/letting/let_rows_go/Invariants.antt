use Rattle.std.specs.BTreeMap.{btree_map_len}
use Rattle.dr_ledger.specs.Pairs.{pair_cmp}
use Rattle.dr_ledger_history.specs.Trees.{as_map}
use Rattle.dr_ledger_history.proofs.Leaving.{HaveLeft}
use Rattle.dr_ledger_history.proofs.letting.let_rows_go.Given as goal

-- what has left so far was done or dropped
abbrev pub invariant-rows : goal.invariant-rows
invariant-rows l = HaveLeft l.uid (as_map pair_cmp l.fn.rows) (as_map pair_cmp l.rows)

abbrev pub decreases-rows : goal.decreases-rows
decreases-rows l = btree_map_len l.rows
