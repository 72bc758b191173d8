-- The book that the parts hold.
use Rattle.std.specs.Prelude.{ℕ, cond, List, [], ◌∷◌, ◌++◌, map as mapped, Option, None, Some}
use Rattle.std.specs.FinMap as map
use Rattle.std.specs.FinSet as set
use Rattle.dr_base.specs.Texts.{Text}
use Rattle.dr_ledger.specs.Bodies.{Bodies}
use Rattle.dr_ledger.specs.Books.{Book}
use Rattle.dr_ledger.specs.declared.item.Progress.{Progress}
use Rattle.dr_ledger.specs.Pairs.{Pair}
use Rattle.dr_ledger_history.specs.Lines.{lines_of}
use Rattle.dr_ledger_memory.specs.declared.held.Held.{Held as Entry}
use Rattle.dr_ledger_memory.specs.declared.parts.Parts.{Parts}
use Rattle.dr_ledger_memory.specs.Entries.{OwnRow}

-- each uid with what f finds in its entry
abbrev pub one_more : {X : Type 0} → Text → Option X → List (Text × X) → List (Text × X)
one_more uid None rest = rest
one_more uid (Some x) rest = (uid, x) ∷ rest

abbrev pub collected : {X : Type 0} → (Entry → Option X) → List (Text × Entry) → List (Text × X)
collected f [] = []
collected f (e ∷ es) = one_more e.0 (f e.1) (collected f es)

-- the rows of one uid
abbrev pub own_rows : Text → List OwnRow → List (Pair × Progress)
own_rows uid rows = mapped (λ row. ((uid, row.0), row.1)) rows

-- and of all
abbrev pub all_rows : List (Text × Entry) → List (Pair × Progress)
all_rows [] = []
all_rows (e ∷ es) = own_rows e.0 e.1.rows.items ++ all_rows es

-- a mark at what is kept
abbrev pub kept_mark : Entry → Option (Unit {0})
kept_mark entry = cond entry.is_kept (Some tt) None

-- the keys of entries
abbrev pub keys : {K X : Type 0} → List (K × X) → List K
keys entries = mapped (λ e. e.0) entries

-- the book of the parts
abbrev pub content : Parts → Book
content p = record {
  items = map.from_entries (collected (λ entry. Some entry.instance) p.held.entries);
  arrivals = set.from_list p.arrivals.keys;
  kept = set.from_list (keys (collected kept_mark p.held.entries));
  rows = map.from_entries (all_rows p.held.entries);
  lines = lines_of p.notes.items;
}

-- and their data sets
abbrev pub data_sets : Parts → Bodies
data_sets p = map.from_entries (collected (λ entry. entry.body) p.held.entries)

-- the kept uids, each with the length of its data set
abbrev pub kept_list : List (Text × Entry) → List (Text × ℕ)
kept_list [] = []
kept_list (e ∷ es) = cond e.1.is_kept ((e.0, e.1.instance.size) ∷ kept_list es) (kept_list es)
