-- What is added to a text, and what trees have a line for.
use Rattle.std.specs.Prelude.{◌≡◌, ℕ, List, ◌++◌, map as mapped}
use Rattle.std.specs.BTreeMap as tree
use Rattle.std.specs.BTreeSet as sorted
use Rattle.dr_base.specs.Texts.{Text, text_cmp}
use Rattle.dr_ledger.specs.Pairs.{Pair, pair_cmp}
use Rattle.dr_ledger.specs.declared.item.Instance.{Instance}
use Rattle.dr_ledger.specs.declared.item.Progress.{Progress}
use Rattle.dr_ledger_balance.specs.Pieces.{all_spelled}
use Rattle.dr_ledger_balance.specs.declared.balance.Balance.{Balance}

-- `spelled rest` is a text with `rest` behind it: that text was added
abbrev pub Adds : Text → Text → (Text → Text) → Type 0
Adds old new spelled = (rest : Text) → new ++ rest ≡ old ++ spelled rest

-- the texts of all these were added
abbrev pub AddsAll : {X : Type 0} → Text → Text → (X → Text → Text) → List X → Type 0
AddsAll old new spelled xs = Adds old new (all_spelled spelled xs)

-- the instances of a tree
abbrev pub values_of : List (Text × Instance) → List Instance
values_of entries = mapped (λ e. e.1) entries

-- what trees hold, with how many lines of a journal made it
abbrev pub balance_of : ℕ → tree.BTreeMap Text Instance → sorted.BTreeSet Pair
    → sorted.BTreeSet Text → tree.BTreeMap Pair Progress → Balance
balance_of count items arrivals kept rows = record {
  count = count;
  items = values_of items.entries;
  arrivals = arrivals.keys;
  kept = kept.keys;
  rows = rows.entries;
}

-- trees are in the order of their keys
pub record AreOrdered (items : tree.BTreeMap Text Instance) (arrivals : sorted.BTreeSet Pair)
    (kept : sorted.BTreeSet Text) (rows : tree.BTreeMap Pair Progress) : Type 0 where
  pub items_rise : tree.IsOrdered text_cmp items
  pub arrivals_rise : sorted.IsOrdered pair_cmp arrivals
  pub kept_rise : sorted.IsOrdered text_cmp kept
  pub rows_rise : tree.IsOrdered pair_cmp rows
