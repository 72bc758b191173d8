-- What a ledger in memory keeps.
use Rattle.std.specs.Prelude.{◌≡◌, List, ℕ, Some, Result, Ok, Err, is_some}
use Rattle.dr_ledger.specs.declared.fault.LedgerFault.{LedgerFault}
use Rattle.dr_ledger.specs.declared.fault.LedgerFault.TheVariants as fault
use Rattle.dr_base.specs.Texts.{Text}
use Rattle.dr_ledger.specs.declared.content.Job.{Job}
use Rattle.dr_ledger.specs.Histories.{IsJournalled}
use Rattle.dr_ledger.specs.Items.{IsItem, instance_of}
use Rattle.dr_ledger.specs.SiteRoutes.{site_routing}
use Rattle.dr_site.specs.Parts.{Part}
use Rattle.dr_ledger_memory.specs.declared.held.Held.{Held as Entry}
use Rattle.dr_ledger_memory.specs.declared.parts.Parts.{Parts}
use Rattle.dr_ledger_memory.specs.Changes.{Tree, at}
use Rattle.dr_ledger_memory.specs.Contents.{content}
use Rattle.dr_ledger_memory.specs.Dues.{Covers}
use Rattle.dr_ledger_memory.specs.Entries.{needs}

-- The data set is there exactly where it is needed, and it is that of an item, which is this
-- instance.
pub record EntryIsWhole (entry : Entry) : Type 0 where
  pub there : is_some entry.body ≡ needs entry.is_kept entry.rows.items
  pub own : (body : List ℕ) → entry.body ≡ Some body
      → (item : Job) × IsItem item × (item.body ≡ body) × (entry.instance ≡ instance_of item)

abbrev pub AreWhole : Tree → Type 0
AreWhole held = (uid : Text) (entry : Entry) → at held uid ≡ Some entry → EntryIsWhole entry

-- the journal is a history of which the book is made, each entry is whole, and each waiting row has
-- its key
pub record PartsAreSound (part : Part) (p : Parts) : Type 0 where
  pub journalled : IsJournalled (site_routing part) (content p)
  pub whole : AreWhole p.held
  pub covered : Covers p.waiting p.held

-- ---- what a ledger in memory answers
-- never that its store failed
abbrev pub NeverFails : {A : Type 0} → Result A LedgerFault → Type 0
NeverFails (Ok value) = Unit {0}
NeverFails (Err fault.Store) = ⊥
NeverFails (Err fault.NoLine) = Unit {0}
NeverFails (Err fault.Conflict) = Unit {0}
NeverFails (Err fault.NotWaiting) = Unit {0}
NeverFails (Err fault.NotHeld) = Unit {0}
NeverFails (Err fault.NotOver) = Unit {0}
NeverFails (Err fault.Memory) = Unit {0}

-- a reading call: what it shows, or that there is no memory for it
abbrev pub ShowsOrFails : {A : Type 0} → Result A LedgerFault → (A → Type 0) → Type 0
ShowsOrFails (Ok value) Is = Is value
ShowsOrFails (Err fault.Memory) Is = Unit {0}
ShowsOrFails (Err fault.Store) Is = ⊥
ShowsOrFails (Err fault.NoLine) Is = ⊥
ShowsOrFails (Err fault.Conflict) Is = ⊥
ShowsOrFails (Err fault.NotWaiting) Is = ⊥
ShowsOrFails (Err fault.NotHeld) Is = ⊥
ShowsOrFails (Err fault.NotOver) Is = ⊥
