use Rattle.std.proofs.Common.{ap, ◌∙◌, map as mapped, vec_len}
use Rattle.std.specs.FinMap as map
use Rattle.dr_ledger_balance.specs.Contents.{by_uid}
use Rattle.dr_ledger_balance.proofs.Onto.{all_put, begun, emptied, mapped_push, one_put, popped}
use Rattle.dr_ledger_balance.proofs.trees.items_tree.Goals as goal

pub loop-item-init : goal.loop-item-init
loop-item-init c = begun c.new-tree.result (mapped by_uid c.into_vec-left.result.items) c.new-tree.ensures.empty ∙ ap (λ l. map.from_entries (mapped by_uid l)) c.into_vec-left.ensures

pub loop-item-preserved : goal.loop-item-preserved
loop-item-preserved c =
    one_put c.loop-item.tree c.insert_item.new.tree (mapped by_uid c.loop-item.left.items) (mapped by_uid c.pop.new.self.items) (by_uid c.in-Some.item) (map.from_entries (mapped by_uid c.args.items)) c.loop-item.invariant
    (ap (λ l. mapped by_uid l) (popped c.loop-item.left.items c.pop.new.self.items c.pop.result c.in-Some.item c.pop.ensures.items c.in-Some.is) ∙ mapped_push by_uid c.pop.new.self.items c.in-Some.item)
    c.in_ok-insert_item.ensures

pub returns : goal.returns
returns c =
    all_put c.loop-item.tree (mapped by_uid c.loop-item.left.items) (map.from_entries (mapped by_uid c.args.items)) c.loop-item.invariant
    (ap (λ l. mapped by_uid l) (emptied c.loop-item.left.items c.pop.new.self.items (vec_len c.loop-item.left) c.in_default.ensures.items c.in_default.ensures.rest c.in_default.ensures.cases.0))
