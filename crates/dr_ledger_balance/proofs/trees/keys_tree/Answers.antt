use Rattle.std.proofs.Common.{ap, ◌∙◌, vec_len}
use Rattle.std.specs.FinSet as set
use Rattle.dr_ledger_history.proofs.Mapped.{set_put}
use Rattle.dr_ledger_balance.proofs.Onto.{all_keys_put, emptied, one_key_put, popped, set_begun}
use Rattle.dr_ledger_balance.proofs.trees.keys_tree.Goals as goal

pub loop-key-init : goal.loop-key-init
loop-key-init g c = set_begun c.new-tree.result c.into_vec-left.result.items c.new-tree.ensures.empty ∙ ap set.from_list c.into_vec-left.ensures

pub loop-key-preserved : goal.loop-key-preserved
loop-key-preserved g c =
    one_key_put c.loop-key.tree c.insert.new.self c.loop-key.left.items c.pop.new.self.items c.in-Some.key (set.from_list c.args.keys) c.loop-key.invariant
    (popped c.loop-key.left.items c.pop.new.self.items c.pop.result c.in-Some.key c.pop.ensures.items c.in-Some.is)
    (set_put (record { total = g.met.K.Ord.total; exact = c.requires }) c.loop-key.tree c.insert.new.self c.in-Some.key c.in_ok-insert.ensures.updates.0)

pub returns : goal.returns
returns g c =
    all_keys_put c.loop-key.tree c.loop-key.left.items (set.from_list c.args.keys) c.loop-key.invariant
    (emptied c.loop-key.left.items c.pop.new.self.items (vec_len c.loop-key.left) c.in_default.ensures.items c.in_default.ensures.rest c.in_default.ensures.cases.0)
