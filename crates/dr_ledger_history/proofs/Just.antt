-- Whether a node has just what trees and lists say, by what each comparison says.
use Rattle.std.proofs.Common.{◌≡◌, Bool, List, ap, sym, subst, ◌∙◌}
use Rattle.std.specs.Prelude.{IsTrue}
use Rattle.std.specs.BTreeMap as tree
use Rattle.std.specs.BTreeSet as sorted
use Rattle.std.specs.FinMap as map
use Rattle.std.specs.FinSet as set
use Rattle.dr_base.specs.Texts.{Text, text_cmp}
use Rattle.dr_ledger.specs.declared.item.Instance.{Instance}
use Rattle.dr_ledger.specs.declared.item.Progress.{Progress}
use Rattle.dr_ledger.specs.Pairs.{Pair, pair_cmp}
use Rattle.dr_ledger.proofs.Maps.{text_pairs, texts}
use Rattle.dr_ledger_history.specs.Contents.{AreListsInOrder, Content, all_of, content}
use Rattle.dr_ledger_history.specs.declared.parts.HistoryParts.{HistoryParts}
use Rattle.dr_ledger_history.specs.Trees.{as_map}
use Rattle.dr_ledger_history.proofs.Ordered.{one_map, one_set}

module _ (parts : HistoryParts) (items : tree.BTreeMap Text Instance) (arrivals : List Pair) (kept : List Text) (rows : List (Pair × Progress)) where
  abbrev all : Content
  all = all_of (as_map text_cmp items) arrivals kept rows

  -- where the lists are the trees', so is what they make
  pub has_all : parts.items.entries ≡ items.entries → parts.arrivals.keys ≡ arrivals → parts.kept.keys ≡ kept → parts.rows.entries ≡ rows → content parts ≡ all
  has_all i a k r = λ j. record {
    items = map.from_entries (i j);
    arrivals = set.from_list (a j);
    kept = set.from_list (k j);
    rows = map.from_entries (r j);
  }

  module _ (order : AreListsInOrder arrivals kept rows) (same : content parts ≡ all) where
    pub items_alike : tree.IsOrdered text_cmp parts.items → tree.IsOrdered text_cmp items → parts.items.entries ≡ items.entries
    items_alike o p = one_map texts parts.items.entries items.entries o p (ap (λ (c : Content). c.items) same)

    pub arrivals_alike : sorted.IsOrdered pair_cmp parts.arrivals → parts.arrivals.keys ≡ arrivals
    arrivals_alike o = one_set text_pairs parts.arrivals.keys arrivals o order.arrivals_rise (ap (λ (c : Content). c.arrivals) same)

    pub kept_alike : sorted.IsOrdered text_cmp parts.kept → parts.kept.keys ≡ kept
    kept_alike o = one_set texts parts.kept.keys kept o order.kept_rise (ap (λ (c : Content). c.kept) same)

    pub rows_alike : tree.IsOrdered pair_cmp parts.rows → parts.rows.entries ≡ rows
    rows_alike o = one_map text_pairs parts.rows.entries rows o order.rows_rise (ap (λ (c : Content). c.rows) same)
