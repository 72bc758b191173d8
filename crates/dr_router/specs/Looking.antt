-- What of a ledger's data sets is read as it is opened, and what comes of reading all.
use Rattle.std.specs.Prelude.{◌≡◌, ℕ, List, ◌∷◌, codes, Option, Result, Ok, Err}
use Rattle.std.specs.Borrow.{Bor}
use Rattle.sqlite.specs.Tree.{Trees}
use Rattle.dr_ledger.specs.declared.fault.LedgerFault.{LedgerFault}
use Rattle.dr_ledger.specs.declared.fault.LedgerFault.TheVariants as ledger
use Rattle.dr_ledger.specs.Bodies.{HasAll}
use Rattle.dr_ledger.specs.Replies.{HasRisen}
use Rattle.dr_run_open.specs.declared.ledgers.OpenFault.{OpenFault}
use Rattle.dr_run_open.specs.declared.ledgers.OpenFault.TheVariants as unopened
use Rattle.dr_store_schema.specs.Books.{book_of}
use Rattle.dr_store.specs.Owning.{bodies_with}

-- the first word asks for an audit
abbrev pub IsAudit : List (Bor (List ℕ)) → Type 0
IsAudit words =
    (word : Bor (List ℕ)) × (more : List (Bor (List ℕ)))
    × (words ≡ word ∷ more)
    × (word.now ≡ codes "audit")

-- where its data sets aren't read
abbrev pub fault_of_reading : LedgerFault → OpenFault
fault_of_reading ledger.Memory = unopened.Memory
fault_of_reading fault = unopened.Store

-- What comes of reading all data sets of a ledger with these tables, where `read_of` is what can be
-- read by a cell: each that the book needs can be read; or one can't; or a call failed.
abbrev pub IsReadAs : Trees
    → (List ℕ → Option (List ℕ))
    → Result (Unit {0}) OpenFault → Type 0
IsReadAs db read_of (Ok done) = HasAll (book_of db) (bodies_with read_of db)
IsReadAs db read_of (Err unopened.NoData) =
    HasAll (book_of db) (bodies_with read_of db) → ⊥
IsReadAs db read_of (Err unopened.Store) = Unit {0}
IsReadAs db read_of (Err unopened.Memory) = Unit {0}
IsReadAs db read_of (Err fault) = ⊥

-- a store is told as failed only where the ledger has counted that it failed
abbrev pub IsCounted : Result (Unit {0}) OpenFault → ℕ → ℕ → Type 0
IsCounted (Err unopened.Store) before now = HasRisen before now
IsCounted result before now = Unit {0}
