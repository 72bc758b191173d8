use Rattle.std.proofs.Common.{ap, ◌∙◌, vec_len}
use Rattle.std.specs.FinMap as map
use Rattle.dr_ledger_balance.proofs.Onto.{all_put, begun, emptied, one_put, popped}
use Rattle.dr_ledger_balance.proofs.trees.rows_tree.Goals as goal

pub loop-row-init : goal.loop-row-init
loop-row-init c = begun c.new-tree.result c.into_vec-left.result.items c.new-tree.ensures.empty ∙ ap map.from_entries c.into_vec-left.ensures

pub loop-row-preserved : goal.loop-row-preserved
loop-row-preserved c =
    one_put c.loop-row.tree c.insert_row.new.tree c.loop-row.left.items c.pop.new.self.items c.in-Some.row (map.from_entries c.args.rows) c.loop-row.invariant
    (popped c.loop-row.left.items c.pop.new.self.items c.pop.result c.in-Some.row c.pop.ensures.items c.in-Some.is) c.in_ok-insert_row.ensures

pub returns : goal.returns
returns c = all_put c.loop-row.tree c.loop-row.left.items (map.from_entries c.args.rows) c.loop-row.invariant
    (emptied c.loop-row.left.items c.pop.new.self.items (vec_len c.loop-row.left) c.in_default.ensures.items c.in_default.ensures.rest c.in_default.ensures.cases.0)
