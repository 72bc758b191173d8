-- What each statement of a ledger makes of its tables, inside a transaction.
use Rattle.std.specs.Prelude.{◌≡◌, ◌≢◌, ℕ, ℤ, pos, Bool, false, filter, IsTrue, List, [], ◌∷◌}
use Rattle.std.specs.Prelude.{IsSome, OnOk, Option, Result}
use Rattle.std.specs.FinMap as map
use Rattle.std.specs.FinMap.{FinMap}
use Rattle.std.specs.List.{AllByRecursion}
use Rattle.sqlite.specs.declared.types.Value.TheVariants.{Null, Int, Text, Blob}
use Rattle.sqlite.specs.Edit.{is_taken}
use Rattle.sqlite.specs.Order.{Row, column}
use Rattle.sqlite.specs.State.{State, HasCleanDisk, KeepsCommit, Survives}
use Rattle.sqlite.specs.Tree.{Trees, put_row, rowid}
use Rattle.sqlite_trees.specs.View.{is_int}
use Rattle.dr_base.specs.Texts as texts
use Rattle.dr_base.specs.Texts.{text_cmp}
use Rattle.dr_ledger.specs.declared.item.Instance.{Instance}
use Rattle.dr_ledger.specs.declared.item.Outcome.{Outcome}
use Rattle.dr_ledger.specs.declared.item.Progress.{Progress}
use Rattle.dr_ledger.specs.Books.{is_other, not_over}
use Rattle.dr_ledger.specs.Pairs.{Pair}
use Rattle.dr_route.specs.declared.key.Key.{Key}
use Rattle.dr_store_schema.specs.Books.{Print, contents_in, items_in, prints_in, rows_in, wholes_in}
use Rattle.dr_store_schema.specs.Cells.{mark_of, moment_value, outcome_value, text_in}
use Rattle.dr_store_schema.specs.Ledgers.{IsLedger}

-- the transaction goes on over a ledger's tables, and nothing is committed
pub record GoesOn (old new : State) : Type 0 where
  pub ledger : IsLedger new.now
  pub mode : IsTrue new.in_transaction
  pub committed : new.committed ≡ old.committed
  pub is_open : IsTrue new.is_open

-- The call commits nothing: no fault is forgotten, only a fault shuts the connection, and a crash
-- leaves no more than what it could leave before.
abbrev pub CommitsNothing : State → State → Type 0
CommitsNothing old new = Survives old new (λ _. ⊥)

-- What a statement does inside a transaction. Where it is done it makes this of a ledger's tables;
-- whatever it answers, nothing is committed, and a crash leaves what it could leave before.
pub record StatementStep {A E : Type 0} (result : Result A E) (old new : State)
    (Made : Type 0) : Type 0 where
  pub ok : HasCleanDisk new
      → IsTrue old.in_transaction
      → IsTrue old.is_open → IsLedger old.now → OnOk result Made
  pub kept : HasCleanDisk new → KeepsCommit old new
  pub survives : CommitsNothing old new

-- of the trees of a ledger's tables all but one are as they were
pub record LeavesOthers (but : ℕ) (old new : Trees) : Type 0 where
  pub site : but ≢ 0 → new 0 ≡ old 0
  pub items : but ≢ 1 → new 1 ≡ old 1
  pub prints : but ≢ 3 → new 3 ≡ old 3
  pub arrivals : but ≢ 5 → new 5 ≡ old 5
  pub kept : but ≢ 7 → new 7 ≡ old 7
  pub queue : but ≢ 9 → new 9 ≡ old 9
  pub journal : but ≢ 11 → new 11 ≡ old 11
  pub targets : but ≢ 12 → new 12 ≡ old 12

-- a row is added to the table of that tree, and its rowid was free
pub record AddsRow (tree : ℕ) (row : Row) (old new : State) : Type 0 where
  pub goes_on : GoesOn old new
  pub rows : new.now.trees tree ≡ put_row row (old.now.trees tree)
  pub free : is_taken (old.now.trees tree) row ≡ false
  pub others : LeavesOthers tree old.now.trees new.now.trees

-- a row with these cells is added, under some rowid
pub record AddsCells (tree : ℕ) (cells : Row) (old new : State) : Type 0 where
  pub id : ℤ
  pub adds : AddsRow tree (Int id ∷ cells) old new

-- ---- the cells of each table's row

-- an item's row, under the number of the line by which it came
abbrev pub item_row : ℕ → texts.Text → Key → List ℕ → Row
item_row n uid key body =
    Int (pos n) ∷ Text uid ∷ Text key.class ∷ Text (mark_of key.syntax) ∷ Blob key.modality
    ∷ Blob key.station ∷ Blob body ∷ []

-- `whole` is 1 where the data set is there, and else 0
abbrev pub print_cells : texts.Text → ℕ → List ℕ → ℕ → Row
print_cells uid size digest whole = Text uid ∷ Int (pos size) ∷ Blob digest ∷ Int (pos whole) ∷ []

abbrev pub arrival_cells : Pair → Row
arrival_cells at = Text at.0 ∷ Text at.1 ∷ []

abbrev pub kept_cells : texts.Text → Row
kept_cells uid = Text uid ∷ []

-- it waits, untried, and is due at once
abbrev pub new_cells : Pair → Row
new_cells at = Text at.0 ∷ Text at.1 ∷ Int (pos 0) ∷ Int (pos 0) ∷ Int (pos 0) ∷ Null ∷ []

abbrev pub target_cells : ℕ → texts.Text → Row
target_cells n dest = Int (pos n) ∷ Text dest ∷ []

-- the one row of site: the node that the ledger is of, and the SHA-256 of the plan in force
abbrev pub site_row : texts.Text → List ℕ → Row
site_row node plan = Int (pos 1) ∷ Null ∷ Text node ∷ Blob plan ∷ []

-- ---- the lines of the journal, each with its number and its moment, where one was told

-- what rules read of an instance, and its data set's length and SHA-256
abbrev pub instance_cells : Instance → Row
instance_cells item =
    Text item.key.class ∷ Text (mark_of item.key.syntax) ∷ Blob item.key.modality
    ∷ Blob item.key.station ∷ Int (pos item.size) ∷ Blob item.digest ∷ []

-- those cells of a line by which no instance comes
abbrev pub no_instance : Row
no_instance = Null ∷ Null ∷ Null ∷ Null ∷ Null ∷ Null ∷ []

-- kind 0 is a first arrival, 1 a repeat
abbrev pub arrived_line : ℕ → Option ℕ → ℕ → texts.Text → Instance → Row
arrived_line n moment kind caller item =
    Int (pos n) ∷ Null ∷ Int (pos kind) ∷ Text caller ∷ Text item.uid ∷ Null ∷ Int (pos kind)
    ∷ moment_value moment ∷ instance_cells item

abbrev pub settled_line : ℕ → texts.Text → texts.Text → Outcome → ℕ → Row
settled_line n uid dest what now =
    Int (pos n) ∷ Null ∷ Int (pos 2) ∷ Null ∷ Text uid ∷ Text dest ∷ outcome_value what
    ∷ Int (pos now) ∷ no_instance

abbrev pub requeued_line : ℕ → Option ℕ → texts.Text → texts.Text → Row
requeued_line n moment uid dest =
    Int (pos n) ∷ Null ∷ Int (pos 3) ∷ Null ∷ Text uid ∷ Text dest ∷ Null ∷ moment_value moment
    ∷ no_instance

abbrev pub dropped_line : ℕ → texts.Text → texts.Text → ℕ → Row
dropped_line n uid dest now =
    Int (pos n) ∷ Null ∷ Int (pos 6) ∷ Null ∷ Text uid ∷ Text dest ∷ Null ∷ Int (pos now)
    ∷ no_instance

abbrev pub adopted_line : ℕ → Option ℕ → Row
adopted_line n moment =
    Int (pos n) ∷ Null ∷ Int (pos 4) ∷ Null ∷ Null ∷ Null ∷ Null ∷ moment_value moment ∷ no_instance

abbrev pub forgotten_line : ℕ → Option ℕ → texts.Text → Row
forgotten_line n moment uid =
    Int (pos n) ∷ Null ∷ Int (pos 5) ∷ Null ∷ Text uid ∷ Null ∷ Null ∷ moment_value moment
    ∷ no_instance

-- ---- rows that change or leave

-- queue has a row for the pair
abbrev pub HasRow : Pair → Trees → Type 0
HasRow at db = IsSome (map.get (rows_in (db 9)) at)

-- item has a row for the uid
abbrev pub HasItem : texts.Text → Trees → Type 0
HasItem uid db = IsSome (map.get (contents_in (db 1)) uid)

-- print has a row for the uid
abbrev pub HasPrint : texts.Text → Trees → Type 0
HasPrint uid db = IsSome (map.get (wholes_in (db 3)) uid)

-- the row of an instance and a destination moves on
pub record SetsRow (at : Pair) (to : Progress) (old new : State) : Type 0 where
  pub goes_on : GoesOn old new
  pub rows : rows_in (new.now.trees 9) ≡ map.insert (rows_in (old.now.trees 9)) at to
  pub others : LeavesOthers 9 old.now.trees new.now.trees

-- an item has this data set; what is known of it stays
pub record SetsBody (uid body : List ℕ) (old new : State) : Type 0 where
  pub goes_on : GoesOn old new
  pub contents : contents_in (new.now.trees 1) ≡ map.insert (contents_in (old.now.trees 1)) uid body
  pub items : (prints : FinMap text_cmp Print)
      → items_in prints (new.now.trees 1) ≡ items_in prints (old.now.trees 1)
  pub others : LeavesOthers 1 old.now.trees new.now.trees

-- an item's print says whether the data set is there; length and digest stay
pub record SetsWhole (uid : List ℕ) (whole : ℕ) (old new : State) : Type 0 where
  pub goes_on : GoesOn old new
  pub wholes : wholes_in (new.now.trees 3) ≡ map.insert (wholes_in (old.now.trees 3)) uid whole
  pub prints : prints_in (new.now.trees 3) ≡ prints_in (old.now.trees 3)
  pub others : LeavesOthers 3 old.now.trees new.now.trees

-- site has one row, with this plan
abbrev pub IsSiteOf : texts.Text → List ℕ → Trees → Type 0
IsSiteOf node plan db = db 0 ≡ site_row node plan ∷ []

-- the ledger has an owner
abbrev pub HasSite : Trees → Type 0
HasSite db = (node : texts.Text) × (plan : List ℕ) × IsSiteOf node plan db

-- the plan in force is this one, for the same node
pub record SetsPlan (plan : List ℕ) (old new : State) : Type 0 where
  pub goes_on : GoesOn old new
  pub site : (node : texts.Text) (was : List ℕ)
      → IsSiteOf node was old.now.trees
      → IsSiteOf node plan new.now.trees
  pub others : LeavesOthers 0 old.now.trees new.now.trees

-- no arrival is left
pub record DropsArrivals (old new : State) : Type 0 where
  pub goes_on : GoesOn old new
  pub rows : new.now.trees 5 ≡ []
  pub others : LeavesOthers 5 old.now.trees new.now.trees

-- the rows that are over have left
pub record DropsOver (old new : State) : Type 0 where
  pub goes_on : GoesOn old new
  pub rows : rows_in (new.now.trees 9) ≡ not_over (rows_in (old.now.trees 9))
  pub others : LeavesOthers 9 old.now.trees new.now.trees

-- the row is of another instance than that of this uid, by its uid in that column
abbrev pub is_of_other : ℕ → texts.Text → Row → Bool
is_of_other at uid row = is_other uid (text_in (column row at))

-- The rows of an instance have left the table of that tree, where the uid stands in that column;
-- each other row is as it was.
pub record DropsOf (tree at : ℕ) (uid : texts.Text) (old new : State) : Type 0 where
  pub goes_on : GoesOn old new
  pub rows : new.now.trees tree ≡ filter (is_of_other at uid) (old.now.trees tree)
  pub others : LeavesOthers tree old.now.trees new.now.trees

-- each row has a number for a rowid
abbrev pub HaveNumbers : List Row → Type 0
HaveNumbers = AllByRecursion (λ row. IsTrue (is_int (rowid row)))

-- All rows have left the table of that tree, where each had a number for a rowid, by which it can
-- be found.
pub record DropsAll (tree : ℕ) (old new : State) : Type 0 where
  pub goes_on : GoesOn old new
  pub rows : HaveNumbers (old.now.trees tree) → new.now.trees tree ≡ []
  pub others : LeavesOthers tree old.now.trees new.now.trees
