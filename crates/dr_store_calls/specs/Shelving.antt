-- What is said of arrivals whose data sets are put on a shelf. `Used` says which cells were in use
-- there before, `Uses` which are after it, `Stands` for which bytes they stand then, and `Apart`
-- which two can be let go one without the other.
use Rattle.std.specs.Prelude.{◌≡◌, ◌⊎◌, ℕ, List, Option, Some, None, Result}
use Rattle.std.specs.FinMap as map
use Rattle.sqlite.specs.Tree.{Trees}
use Rattle.dr_base.specs.Texts.{Text}
use Rattle.dr_site.specs.Parts.{Part}
use Rattle.dr_ledger.specs.declared.content.Job.{Job}
use Rattle.dr_ledger.specs.declared.fault.LedgerFault.{LedgerFault}
use Rattle.dr_ledger.specs.declared.fault.LedgerFault.TheVariants as ledger
use Rattle.dr_ledger.specs.declared.item.Arrived.{Arrived}
use Rattle.dr_ledger.specs.Items.{IsItem, instance_of}
use Rattle.dr_ledger.specs.Replies.{Arrives}
use Rattle.dr_ledger.specs.SiteRoutes.{site_routing}
use Rattle.dr_store_shelf.specs.declared.fault.ShelfFault.{ShelfFault}
use Rattle.dr_store_shelf.specs.declared.fault.ShelfFault.TheVariants as shelf
use Rattle.dr_store_schema.specs.Books.{bodies_of, book_of, items_of}
use Rattle.dr_store_calls.specs.Knowing.{IsAccepted}
use Rattle.dr_store_calls.specs.Receiving.{IsAccounted}

-- the ledger's fault for that of its shelf: all but want of memory is a fault of its store
abbrev pub fault_of_shelf : ShelfFault → LedgerFault
fault_of_shelf (shelf.Io error) = ledger.Store
fault_of_shelf shelf.Memory = ledger.Memory
fault_of_shelf shelf.Unusable = ledger.Store
fault_of_shelf shelf.Full = ledger.Store
fault_of_shelf shelf.NoCell = ledger.Store
fault_of_shelf shelf.Unreadable = ledger.Store

-- Nothing is put, which is so where the shelf is the same as before, or these bytes are, by this
-- cell: it is in use and stands for them, and it can be let go without any that was in use before.
abbrev pub IsPut : (Same : Type 0)
    → (Used : List ℕ → Type 0)
    → (Uses : List ℕ → Type 0)
    → (Stands : List ℕ → List ℕ → Type 0)
    → (Apart : List ℕ → List ℕ → Type 0)
    → List ℕ → Option (List ℕ) → Type 0
IsPut Same Used Uses Stands Apart body None = Same
IsPut Same Used Uses Stands Apart body (Some cell) =
    Uses cell × Stands cell body × ((other : List ℕ) → Used other → Apart cell other)

-- Each cell that is there after a call was there before; or it came for the data set of what was
-- brought, an item, under its uid, and the book has the item then. `Comes` says of a data set
-- whether it came by no cell, or by this one.
abbrev pub TakesItem : (List ℕ → Option (List ℕ) → Type 0) → Job → Trees → Trees → Type 0
TakesItem Comes item base db =
    (uid : Text) (there : List ℕ)
    → map.get (bodies_of db) uid ≡ Some there
    → (map.get (bodies_of base) uid ≡ Some there)
    ⊎ ((uid ≡ item.uid) × Comes item.body (Some there) × IsItem item
    × (map.get (items_of db) item.uid ≡ Some (instance_of item)))

-- book and cells after an arrival with this answer
abbrev pub AnswersTo : (List ℕ → Option (List ℕ) → Type 0)
    → Part
    → Text → Job → Result Arrived LedgerFault → Trees → Trees → Type 0
AnswersTo Comes part caller item result base db =
    Arrives (site_routing part) caller (instance_of item) (book_of base) result (book_of db)
    × TakesItem Comes item base db
    × IsAccounted (Comes item.body) result item.uid db

-- book and cells after one that was accepted
abbrev pub AcceptsItem : (List ℕ → Option (List ℕ) → Type 0)
    → Part
    → Text → Job → Trees → Trees → Type 0
AcceptsItem Comes part caller item base db =
    IsAccepted part caller (instance_of item) (book_of base) (book_of db)
    × TakesItem Comes item base db
