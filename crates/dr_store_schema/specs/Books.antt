-- The book that the tables stand for, and its data sets: each table is a part of it, and of an
-- instance `item` has what rules read and `print` the length and the digest. The line of an arrival
-- has all of its instance itself, since the item may be forgotten, and another one come under its
-- uid.
use Rattle.std.specs.Prelude.{◌≡◌, ◌==◌, ◌<◌, ℕ, zero, suc, pos, Bool, false, not, List, []}
use Rattle.std.specs.Prelude.{map as mapped, filter, Option, Some, None}
use Rattle.std.specs.List.{AllByRecursion}
use Rattle.std.specs.Ordering.{nat_cmp}
use Rattle.std.specs.FinMap as map
use Rattle.std.specs.FinMap.{FinMap}
use Rattle.std.specs.FinSet as set
use Rattle.std.specs.FinSet.{FinSet}
use Rattle.sqlite.specs.declared.types.Value.TheVariants.{Int}
use Rattle.sqlite.specs.Order.{Row, column}
use Rattle.sqlite.specs.Tree.{Trees, rowid}
use Rattle.dr_base.specs.Texts.{Text, text_cmp}
use Rattle.dr_route.specs.Routes.{local}
use Rattle.dr_route.specs.declared.key.Key.{Key}
use Rattle.dr_ledger.specs.declared.item.Instance.{Instance}
use Rattle.dr_ledger.specs.declared.item.Outcome.{Outcome}
use Rattle.dr_ledger.specs.declared.item.Progress.{Progress}
use Rattle.dr_ledger.specs.Bodies.{Bodies}
use Rattle.dr_ledger.specs.Books.{Book, Line, Arrival, Repeat, Settling, Requeuing, Dropping}
use Rattle.dr_ledger.specs.Books.{Forgetting, Adoption}
use Rattle.dr_ledger.specs.Pairs.{Pair, pair_cmp}
use Rattle.dr_store_schema.specs.Cells.{text_in, bytes_in, number_in, syntax_marked, progress_in}
use Rattle.dr_store_schema.specs.Cells.{outcome_in}

-- Column 0 of a row is its rowid; the table's own columns follow. In journal the number of the line
-- is the rowid, and its own column is NULL, as that of each INTEGER PRIMARY KEY.

-- ---- print

-- a data set's length (bytes) and its SHA-256
abbrev pub Print : Type 0
Print = ℕ × List ℕ

abbrev pub print_in : Row → Text × Print
print_in row = (text_in (column row 1), (number_in (column row 2), bytes_in (column row 3)))

-- `whole`: 0 where the data set was let go
abbrev pub whole_in : Row → Text × ℕ
whole_in row = (text_in (column row 1), number_in (column row 4))

abbrev pub prints_in : List Row → FinMap text_cmp Print
prints_in rows = map.from_entries (mapped print_in rows)

abbrev pub wholes_in : List Row → FinMap text_cmp ℕ
wholes_in rows = map.from_entries (mapped whole_in rows)

-- ---- item

abbrev pub key_in : Row → Key
key_in row = record {
  class = text_in (column row 2);
  syntax = syntax_marked (text_in (column row 3));
  modality = bytes_in (column row 4);
  station = bytes_in (column row 5);
}

-- an item whose print is missing has no size and no digest; there is none in a ledger
abbrev pub print_or_none : Option Print → Print
print_or_none None = (0, [])
print_or_none (Some print) = print

-- the instance of that uid and key, by the prints
abbrev pub instance_by : FinMap text_cmp Print → Text → Key → Instance
instance_by prints uid key = record {
  uid = uid;
  key = key;
  size = (print_or_none (map.get prints uid)).0;
  digest = (print_or_none (map.get prints uid)).1;
}

abbrev pub item_in : FinMap text_cmp Print → Row → Text × Instance
item_in prints row =
    (text_in (column row 1), instance_by prints (text_in (column row 1)) (key_in row))

abbrev pub items_in : FinMap text_cmp Print → List Row → FinMap text_cmp Instance
items_in prints rows = map.from_entries (mapped (item_in prints) rows)

abbrev pub content_in : Row → Text × List ℕ
content_in row = (text_in (column row 1), bytes_in (column row 6))

abbrev pub contents_in : List Row → FinMap text_cmp (List ℕ)
contents_in rows = map.from_entries (mapped content_in rows)

-- ---- arrival, kept, queue

abbrev pub arrival_in : Row → Pair
arrival_in row = (text_in (column row 1), text_in (column row 2))

abbrev pub arrivals_in : List Row → FinSet pair_cmp
arrivals_in rows = set.from_list (mapped arrival_in rows)

abbrev pub kept_in : Row → Text
kept_in row = text_in (column row 1)

abbrev pub all_kept_in : List Row → FinSet text_cmp
all_kept_in rows = set.from_list (mapped kept_in rows)

abbrev pub entry_in : Row → Pair × Progress
entry_in row = (
  (text_in (column row 1), text_in (column row 2)),
  progress_in (column row 3) (column row 4) (column row 5) (column row 6),
)

abbrev pub rows_in : List Row → FinMap pair_cmp Progress
rows_in rows = map.from_entries (mapped entry_in rows)

-- ---- journal and target

abbrev pub is_of_line : ℕ → Row → Bool
is_of_line n row = number_in (column row 1) == n

abbrev pub dest_in : Row → Text
dest_in row = text_in (column row 2)

-- a set of names, whose keys stand in byte order
abbrev pub NameSet : Type 0
NameSet = FinMap text_cmp (Unit {0})

abbrev pub named_in : Row → Text × Unit {0}
named_in row = (dest_in row, tt)

-- what target has of line n, where `-` stands for keeping
abbrev pub names_in : List Row → ℕ → NameSet
names_in rows n = map.from_entries (mapped named_in (filter (is_of_line n) rows))

-- where the first arrival of line n goes on to, in byte order
abbrev pub targets_in : List Row → ℕ → List Text
targets_in rows n = map.keys (map.remove (names_in rows n) local)

-- whether the node keeps what came by line n
abbrev pub keeps_in : List Row → ℕ → Bool
keeps_in rows n = map.contains_key (names_in rows n) local

-- the instance in a row of journal
abbrev pub instance_in : Row → Instance
instance_in row = record {
  uid = text_in (column row 4);
  key = record {
    class = text_in (column row 8);
    syntax = syntax_marked (text_in (column row 9));
    modality = bytes_in (column row 10);
    station = bytes_in (column row 11);
  };
  size = number_in (column row 12);
  digest = bytes_in (column row 13);
}

-- 0 is a first arrival, 1 a repeat, 2 a settling, 3 a requeuing, 5 a forgetting, 6 a dropping, and
-- all else an adoption
abbrev pub line_by : ℕ → Text → Instance → Text → Text → Outcome → ℕ → List Text → Bool → Line
line_by zero caller item uid dest what now to keep = Arrival caller item to keep
line_by (suc zero) caller item uid dest what now to keep = Repeat caller item
line_by (suc (suc zero)) caller item uid dest what now to keep = Settling uid dest what now
line_by (suc (suc (suc zero))) caller item uid dest what now to keep = Requeuing uid dest
line_by (suc (suc (suc (suc zero)))) caller item uid dest what now to keep = Adoption
line_by (suc (suc (suc (suc (suc zero))))) caller item uid dest what now to keep = Forgetting uid
line_by (suc (suc (suc (suc (suc (suc zero)))))) caller item uid dest what now to keep =
    Dropping uid dest now
line_by (suc (suc (suc (suc (suc (suc (suc more))))))) caller item uid dest what now to keep =
    Adoption

-- the line of a row of journal, with its rows of target
abbrev pub line_in : List Row → Row → Line
line_in targets row = line_by (number_in (column row 2)) (text_in (column row 3))
    (instance_in row) (text_in (column row 4)) (text_in (column row 5))
    (outcome_in (column row 6)) (number_in (column row 7))
    (targets_in targets (number_in (rowid row))) (keeps_in targets (number_in (rowid row)))

abbrev pub numbered_line : List Row → Row → ℕ × Line
numbered_line targets row = (number_in (rowid row), line_in targets row)

-- in the order of their numbers
abbrev pub lines_in : List Row → List Row → List Line
lines_in targets rows =
    map.values (map.from_entries {R = nat_cmp} (mapped (numbered_line targets) rows))

-- each line has a lower number
abbrev pub AreBelow : ℕ → List Row → Type 0
AreBelow n = AllByRecursion (λ row. (m : ℕ) × (rowid row ≡ Int (pos m)) × (m < n))

-- ---- all of it. The trees of the tables are 1 item, 3 print, 5 arrival, 7 kept, 9 queue, 11
-- journal and 12 target.

abbrev pub prints_of : Trees → FinMap text_cmp Print
prints_of db = prints_in (db 3)

abbrev pub items_of : Trees → FinMap text_cmp Instance
items_of db = items_in (prints_of db) (db 1)

abbrev pub rows_of : Trees → FinMap pair_cmp Progress
rows_of db = rows_in (db 9)

abbrev pub lines_of : Trees → List Line
lines_of db = lines_in (db 12) (db 11)

-- the book
abbrev pub book_of : Trees → Book
book_of db = record {
  items = items_of db;
  arrivals = arrivals_in (db 5);
  kept = all_kept_in (db 7);
  rows = rows_of db;
  lines = lines_of db;
}

abbrev pub is_whole : Option ℕ → Bool
is_whole None = false
is_whole (Some n) = not (n == 0)

-- its data sets: those that `print` says are there
abbrev pub bodies_by : FinMap text_cmp (List ℕ) → FinMap text_cmp ℕ → Bodies
bodies_by contents wholes = map.retain_keys contents (λ uid. is_whole (map.get wholes uid))

abbrev pub bodies_of : Trees → Bodies
bodies_of db = bodies_by (contents_in (db 1)) (wholes_in (db 3))
