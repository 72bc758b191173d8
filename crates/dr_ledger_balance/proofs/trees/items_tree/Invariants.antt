use Rattle.std.proofs.Common.{◌≡◌, map as mapped, vec_len}
use Rattle.std.specs.FinMap as map
use Rattle.dr_base.specs.Texts.{text_cmp}
use Rattle.dr_ledger_history.specs.Trees.{as_map}
use Rattle.dr_ledger_balance.specs.Contents.{by_uid}
use Rattle.dr_ledger_balance.proofs.Onto.{onto}
use Rattle.dr_ledger_balance.proofs.trees.items_tree.Given as goal

-- what is left, put into the tree, makes all
abbrev pub invariant-loop-item : goal.invariant-loop-item
invariant-loop-item l = onto (as_map text_cmp l.tree) (mapped by_uid l.left.items) ≡ map.from_entries (mapped by_uid l.fn.items)

abbrev pub decreases-loop-item : goal.decreases-loop-item
decreases-loop-item l = vec_len l.left
