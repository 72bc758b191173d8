use Rattle.std.proofs.Common.{◌≡◌, vec_len}
use Rattle.std.specs.FinSet as set
use Rattle.dr_ledger_history.specs.Trees.{as_set}
use Rattle.dr_ledger_balance.proofs.Onto.{onto_set}
use Rattle.dr_ledger_balance.proofs.trees.keys_tree.Given as goal

-- what is left, put into the tree, makes all
abbrev pub invariant-loop-key : goal.invariant-loop-key
invariant-loop-key g l = onto_set (as_set g.K.Ord.cmp l.tree) l.left.items ≡ set.from_list l.fn.keys

abbrev pub decreases-loop-key : goal.decreases-loop-key
decreases-loop-key g l = vec_len l.left
