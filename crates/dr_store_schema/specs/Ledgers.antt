-- Databases that hold a ledger's tables.
use Rattle.std.specs.Prelude.{◌≡◌, ◌≢◌, ◌<◌, ◌^◌, ℕ, pos, IsTrue, List}
use Rattle.std.specs.List.{AllByRecursion}
use Rattle.sqlite.specs.declared.types.Value.TheVariants.{Int}
use Rattle.sqlite.specs.Order.{Row, column}
use Rattle.sqlite.specs.Tree.{rowid, IsAscending}
use Rattle.sqlite.specs.Effect.{Database, IsDatabase}
use Rattle.sqlite_trees.specs.View.{is_int}
use Rattle.dr_store_schema.specs.Tables.{tables}

-- each row has an integer for a rowid, and no two have the same
pub record AreRows (rows : List Row) : Type 0 where
  pub apart : IsAscending (λ a b. rowid a ≢ rowid b) rows
  pub ints : AllByRecursion (λ r. IsTrue (is_int (rowid r))) rows

-- the numbers of a row of queue that has come from a ledger: its state is one of the four, and it
-- is due at a moment of 63 bits
pub record IsCounted (row : Row) : Type 0 where
  pub state : ℕ
  pub due : ℕ
  pub state_is : column row 3 ≡ Int (pos state)
  pub due_is : column row 5 ≡ Int (pos due)
  pub known : state < 4
  pub fits : due < 2 ^ 63

-- The tables are those of a ledger, each row obeys them, and the rowids of the tables in which rows
-- change or leave differ: those of item, print, arrival and queue. And queue's numbers are a
-- ledger's.
pub record IsLedger (db : Database) : Type 0 where
  pub schema : db.schema ≡ tables
  pub sound : IsDatabase db
  pub items : AreRows (db.trees 1)
  pub prints : AreRows (db.trees 3)
  pub arrivals : AreRows (db.trees 5)
  pub queue : AreRows (db.trees 9)
  pub counted : AllByRecursion IsCounted (db.trees 9)
