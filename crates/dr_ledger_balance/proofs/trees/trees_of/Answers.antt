use Rattle.dr_ledger.proofs.Maps.{text_pairs, texts}
use Rattle.dr_ledger_balance.proofs.trees.trees_of.Goals as goal

pub keys_tree-requires : goal.keys_tree-requires
keys_tree-requires c = text_pairs.exact

pub keys_tree-requires-2 : goal.keys_tree-requires-2
keys_tree-requires-2 c = texts.exact

pub returns : goal.returns
returns c = λ j. record {
  items = c.in_ok-items.ensures j;
  arrivals = c.in_ok-arrivals.ensures j;
  kept = c.in_ok-kept.ensures j;
  rows = c.in_ok-rows.ensures j;
}
