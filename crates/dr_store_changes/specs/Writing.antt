-- A call that writes, as one transaction.
use Rattle.std.specs.Prelude.{◌≡◌, ◌≤◌, ◌+◌, ℕ, pos, IsTrue, List, [], ◌∷◌, Result, OnOk, OnErr}
use Rattle.std.specs.Prelude.{map as mapped}
use Rattle.std.specs.FinMap as map
use Rattle.std.specs.Ordering.{nat_cmp}
use Rattle.sqlite.specs.declared.types.Value.TheVariants.{Int}
use Rattle.sqlite.specs.Order.{Row}
use Rattle.sqlite.specs.State.{State, HasCleanDisk, Survives}
use Rattle.sqlite.specs.Tree.{Trees, put_row, rowid}
use Rattle.sqlite_trees.specs.View.{doubt}
use Rattle.dr_store_schema.specs.Books.{AreBelow}
use Rattle.dr_store_schema.specs.Cells.{number_in}
use Rattle.dr_store_schema.specs.Ledgers.{IsLedger}
use Rattle.dr_store_schema.specs.Tables.{tables}
use Rattle.dr_store_writes.specs.Effects.{GoesOn}

-- a line's number, which is its rowid
abbrev pub number_of : Row → ℕ × Unit {0}
number_of row = (number_in (rowid row), tt)

-- the numbers of the lines, as they rise
abbrev pub numbers_in : List Row → List ℕ
numbers_in rows = map.keys (map.from_entries {R = nat_cmp} (mapped number_of rows))

-- these numbers count up from the first to the one before n
abbrev pub CountTo : ℕ → ℕ → List ℕ → Type 0
CountTo n first [] = n ≡ first
CountTo n first (number ∷ numbers) = (number ≡ first) × CountTo n (first + 1) numbers

-- each line has a number below n, and their numbers count up from the first to the one before n
pub record AreNumberedTo (first n : ℕ) (rows : List Row) : Type 0 where
  pub below : AreBelow n rows
  pub count : CountTo n first (numbers_in rows)

-- the journal has one line more, with that number
pub record AddsLine (n : ℕ) (old new : Trees) : Type 0 where
  pub row : Row
  pub numbered : rowid row ≡ Int (pos n)
  pub journal : new 11 ≡ put_row row (old 11)

-- inside a transaction a call has done all that it does: its line stands in the journal, and the
-- tables are what it makes of them
pub record IsMade (n : ℕ) (Makes : Trees → Trees → Type 0) (old new : State) : Type 0 where
  pub goes_on : GoesOn old new
  pub line : AddsLine n old.now.trees new.now.trees
  pub made : Makes old.now.trees new.now.trees

-- The store is open with a ledger's tables, all is committed, and each line has a lower number.
pub record IsReady (n : ℕ) (s : State) : Type 0 where
  pub is_open : IsTrue s.is_open
  pub ledger : IsLedger s.now
  pub settled : s.now ≡ s.committed
  pub below : AreBelow n (s.now.trees 11)

-- the trees are those of a database with a ledger's tables, which obey them
abbrev pub AreLedgers : Trees → Type 0
AreLedgers db = IsLedger (record { schema = tables; trees = db })

-- What one transaction does, where the tables are as it asks; the next line has number n before it
-- and m after it. Where it is accepted, the tables committed are what it makes of those committed
-- before. Where it is refused, and the store is open still, the tables committed are those from
-- before. And a crash leaves, whatever the call answered, what it could leave before, or what the
-- call makes, a database with a ledger's tables: never a part of it.
pub record Transacted {E : Type 0} (n m : ℕ) (Asks : Trees → Type 0)
    (Makes : Trees → Trees → Type 0)
    (result : Result (Unit {0}) E) (old new : State) : Type 0 where
  pub was_open : HasCleanDisk new → IsTrue new.is_open → IsTrue old.is_open
  pub ok : HasCleanDisk new → IsReady n old → Asks old.now.trees
      → OnOk result (IsReady m new × Makes old.committed.trees new.committed.trees)
  pub err : HasCleanDisk new → IsTrue new.is_open → OnErr result (new.committed ≡ old.committed)
  pub ready : HasCleanDisk new → IsTrue new.is_open → IsReady n old → Asks old.now.trees
      → OnErr result (IsReady n new)
  pub crash : IsReady n old → Asks old.now.trees
      → Survives old new (λ db. AreLedgers db × Makes old.committed.trees db)
  pub clean : doubt old.is_clean ≤ doubt new.is_clean

-- What a call does that adds a line, as one transaction: the next line's number is one more.
abbrev pub Written : {E : Type 0} → ℕ
    → (Trees → Type 0)
    → (Trees → Trees → Type 0)
    → Result (Unit {0}) E
    → State → State → Type 0
Written n Asks Makes result old new = Transacted n (n + 1) Asks Makes result old new
