-- A book but for its journal.
use Rattle.std.specs.Prelude.{◌≡◌, Bool, IsTrue, List, []}
use Rattle.std.specs.List.Sorted.{IsStrictlySortedBy}
use Rattle.std.specs.Map.{keys_of}
use Rattle.std.specs.BTreeMap as tree
use Rattle.std.specs.BTreeSet as sorted
use Rattle.std.specs.FinMap as map
use Rattle.std.specs.FinMap.{FinMap}
use Rattle.std.specs.FinSet as set
use Rattle.std.specs.FinSet.{FinSet}
use Rattle.dr_base.specs.Texts.{Text, text_cmp}
use Rattle.dr_ledger.specs.declared.item.Instance.{Instance}
use Rattle.dr_ledger.specs.declared.item.Progress.{Progress}
use Rattle.dr_ledger.specs.Books.{Book}
use Rattle.dr_ledger.specs.Pairs.{Pair, pair_cmp}
use Rattle.dr_ledger_history.specs.declared.parts.HistoryParts.{HistoryParts}
use Rattle.dr_ledger_history.specs.Trees.{as_map, as_set}

-- what a node has: items by uid, arrivals (caller, uid), kept uids, how far each (uid, destination)
-- is
pub record Content : Type 0 where
  pub items : FinMap text_cmp Instance
  pub arrivals : FinSet pair_cmp
  pub kept : FinSet text_cmp
  pub rows : FinMap pair_cmp Progress

-- what the book has
abbrev pub content_of : Book → Content
content_of b = record { items = b.items; arrivals = b.arrivals; kept = b.kept; rows = b.rows }

-- a book that has it, and no lines
abbrev pub book_of : Content → Book
book_of c =
    record { items = c.items; arrivals = c.arrivals; kept = c.kept; rows = c.rows; lines = [] }

-- what trees hold
abbrev pub held_in : tree.BTreeMap Text Instance → sorted.BTreeSet Pair → sorted.BTreeSet Text
    → tree.BTreeMap Pair Progress → Content
held_in items arrivals kept rows = record {
  items = as_map text_cmp items;
  arrivals = as_set pair_cmp arrivals;
  kept = as_set text_cmp kept;
  rows = as_map pair_cmp rows;
}

-- what the parts hold
abbrev pub content : HistoryParts → Content
content p = held_in p.items p.arrivals p.kept p.rows

-- what these lists of all arrivals, kept uids and rows make, with these items
abbrev pub all_of : FinMap text_cmp Instance → List Pair → List Text → List (Pair × Progress)
    → Content
all_of items arrivals kept rows = record {
  items = items;
  arrivals = set.from_list arrivals;
  kept = set.from_list kept;
  rows = map.from_entries rows;
}

-- the lists are in the order of their keys, each key once
pub record AreListsInOrder (arrivals : List Pair) (kept : List Text)
    (rows : List (Pair × Progress)) : Type 0 where
  pub arrivals_rise : IsStrictlySortedBy pair_cmp arrivals
  pub kept_rise : IsStrictlySortedBy text_cmp kept
  pub rows_rise : IsStrictlySortedBy pair_cmp (keys_of rows)

-- Whether a node has just these: where it is said so, it has; and where it has just these, by lists
-- that are in order, it is said so.
pub record HasJust (c : Content) (items : FinMap text_cmp Instance) (arrivals : List Pair)
    (kept : List Text) (rows : List (Pair × Progress)) (said : Bool) : Type 0 where
  pub has : IsTrue said → c ≡ all_of items arrivals kept rows
  pub says : AreListsInOrder arrivals kept rows → c ≡ all_of items arrivals kept rows → IsTrue said
