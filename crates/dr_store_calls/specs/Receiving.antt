-- What is brought to a site, and what is said of the calls that take it.
use Rattle.std.specs.Prelude.{◌≡◌, ◌≤◌, ◌<◌, ◌^◌, ◌⊎◌, ℕ, Bool, true, false, List, length}
use Rattle.std.specs.Prelude.{Option, Some, None, Result, Ok, Err}
use Rattle.std.specs.FinMap as map
use Rattle.std.specs.FinSet as set
use Rattle.sqlite.specs.State.{State}
use Rattle.sqlite.specs.Tree.{Trees}
use Rattle.dr_base.specs.Texts.{Text}
use Rattle.dr_route.specs.declared.rule.Targets.{Targets}
use Rattle.dr_site.specs.Parts.{Part}
use Rattle.dr_site.specs.Routing.{HasLineFor}
use Rattle.dr_ledger.specs.declared.fault.LedgerFault.{LedgerFault}
use Rattle.dr_ledger.specs.declared.fault.LedgerFault.TheVariants as fault
use Rattle.dr_ledger.specs.declared.item.Arrived.{Arrived}
use Rattle.dr_ledger.specs.declared.item.Arrived.TheVariants.{New, Again}
use Rattle.dr_ledger.specs.declared.item.Instance.{Instance}
use Rattle.dr_ledger.specs.Replies.{Arrives}
use Rattle.dr_ledger.specs.SiteRoutes.{site_routing}
use Rattle.dr_store_schema.specs.Books.{all_kept_in, arrivals_in, bodies_of, book_of, items_of}
use Rattle.dr_store_schema.specs.Books.{rows_of}
use Rattle.dr_store_changes.specs.declared.first.Taking.{Taking}
use Rattle.dr_store_changes.specs.declared.first.Taking.TheVariants as taking
use Rattle.dr_store_changes.specs.Bringing.{AreTargets, given_up, missing}
use Rattle.dr_store_calls.specs.declared.bringing.Delivery.{Delivery}
use Rattle.dr_store_calls.specs.declared.bringing.FirstArrival.{FirstArrival}
use Rattle.dr_store_calls.specs.Calling.{Called, advanced}
use Rattle.dr_store_calls.specs.Knowing.{IsAccepted, IsThere}

-- ---- what is brought

-- an instance for whose key the site has a line of that caller, and whose size a row can tell, with
-- a data set that isn't empty
pub record IsDelivered (came : Delivery) : Type 0 where
  pub line : HasLineFor came.site.now came.caller.now came.instance.now.key
  pub size : came.instance.now.size ≤ 2 ^ 62
  pub some : 0 < length came.body.now

-- what the site does with its key
pub record AreTargetsOf (came : Delivery) (targets : Targets) : Type 0 where
  pub to : targets.to
      ≡ (site_routing came.site.now).targets came.caller.now came.instance.now.key
  pub keep : targets.keep
      ≡ (site_routing came.site.now).keeps came.caller.now came.instance.now.key
  pub formed : AreTargets targets.to

-- ---- what the tables have of it

-- the instance is there, whether or not with its data set, and whether or not the caller has
-- brought it
abbrev pub IsThereFor : Delivery → Bool → Bool → Trees → Type 0
IsThereFor came whole brought db =
    IsThere db came.instance.now whole
    × (set.contains (arrivals_in (db 5)) (came.caller.now, came.instance.now.uid) ≡ brought)

-- the destinations for which it waits after a first arrival, and whether it is kept already
pub record IsFoundFor (uid : Text) (db : Trees) (first : FirstArrival) : Type 0 where
  pub dests : first.dests ≡ missing (rows_of db) uid first.targets.to
  pub again : first.again ≡ given_up (rows_of db) uid first.targets.to
  pub kept : first.kept ≡ set.contains (all_kept_in (db 7)) uid

-- ---- the cell that comes

-- a data set comes with an instance that is taken so
abbrev pub comes : Taking → Bool
comes taking.New = true
comes taking.Bare = false
comes taking.Again = true
comes taking.Nothing = false

-- with an instance that is taken so no cell comes, or this one
abbrev pub IsCellTaken : Taking → List ℕ → Option (List ℕ) → Type 0
IsCellTaken how cell None = comes how ≡ false
IsCellTaken how cell (Some there) = (comes how ≡ true) × (there ≡ cell)

-- no cell comes
abbrev pub ComesNone : Option (List ℕ) → Type 0
ComesNone None = Unit {0}
ComesNone (Some there) = ⊥

-- Each cell that is there after a call was there before; or it came, under the uid of this
-- instance, and the book has the instance then. `Comes` says whether none came, or this one.
abbrev pub TakesOn : (Option (List ℕ) → Type 0) → Instance → Trees → Trees → Type 0
TakesOn Comes instance base db =
    (uid : Text) (there : List ℕ)
    → map.get (bodies_of db) uid ≡ Some there
    → (map.get (bodies_of base) uid ≡ Some there)
    ⊎ ((uid ≡ instance.uid) × Comes (Some there)
    × (map.get (items_of db) instance.uid ≡ Some instance))

-- After a first arrival a row has the cell that came, or none came. None came either where the
-- answer is a repeat or a refusal.
abbrev pub IsAccounted : (Option (List ℕ) → Type 0)
    → Result Arrived LedgerFault
    → Text → Trees → Type 0
IsAccounted Comes (Ok New) uid db =
    Comes None
    ⊎ ((there : List ℕ) × (map.get (bodies_of db) uid ≡ Some there) × Comes (Some there))
IsAccounted Comes (Ok Again) uid db = Comes None
IsAccounted Comes (Err fault.NoLine) uid db = Comes None
IsAccounted Comes (Err fault.Conflict) uid db = Comes None
IsAccounted Comes (Err fault.Store) uid db = Unit {0}
IsAccounted Comes (Err fault.Memory) uid db = Unit {0}
IsAccounted Comes (Err fault.NotWaiting) uid db = Unit {0}
IsAccounted Comes (Err fault.NotHeld) uid db = Unit {0}
IsAccounted Comes (Err fault.NotOver) uid db = Unit {0}

-- ---- the calls

-- book and cells after an arrival of the instance with this answer
abbrev pub AnswersWith : (Option (List ℕ) → Type 0)
    → Part
    → Text → Instance → Result Arrived LedgerFault → Trees → Trees → Type 0
AnswersWith Comes part caller instance result base db =
    Arrives (site_routing part) caller instance (book_of base) result (book_of db)
    × TakesOn Comes instance base db
    × IsAccounted Comes result instance.uid db

-- book and cells after one that was accepted
abbrev pub AcceptsOne : (Option (List ℕ) → Type 0) → Part → Text → Instance → Trees → Trees → Type 0
AcceptsOne Comes part caller instance base db =
    IsAccepted part caller instance (book_of base) (book_of db) × TakesOn Comes instance base db

-- the same, with this answer
abbrev pub AcceptsAs : (Option (List ℕ) → Type 0)
    → Part
    → Text → Instance → Arrived → Trees → Trees → Type 0
AcceptsAs Comes part caller instance answer base db =
    Arrives (site_routing part) caller instance (book_of base) (Ok answer) (book_of db)
    × TakesOn Comes instance base db

-- a call that takes what is brought, where the tables are as it asks
abbrev pub Receives : (Option (List ℕ) → Type 0)
    → Delivery
    → Result Arrived LedgerFault
    → State → State
    → (Trees → Type 0) → Type 0
Receives Comes came result old new Asks =
    Called came.n (advanced result came.n) came.site.now result old new Asks
    (AnswersWith Comes came.site.now came.caller.now came.instance.now result)
    (AcceptsOne Comes came.site.now came.caller.now came.instance.now)

-- the same, where what is accepted has this one answer
abbrev pub ReceivesAs : (Option (List ℕ) → Type 0)
    → Arrived
    → Delivery
    → Result Arrived LedgerFault
    → State → State
    → (Trees → Type 0) → Type 0
ReceivesAs Comes answer came result old new Asks =
    Called came.n (advanced result came.n) came.site.now result old new Asks
    (AnswersWith Comes came.site.now came.caller.now came.instance.now result)
    (AcceptsAs Comes came.site.now came.caller.now came.instance.now answer)
