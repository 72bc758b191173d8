-- A change of all nodes' ledgers is an adoption in the world of messages that has their books.
use Rattle.std.specs.Prelude.{◌≡◌, ℕ, Bool, false, List, [], All, Contains, Ok}
use Rattle.std.specs.List.{AllZip}
use Rattle.std.specs.FinSet as set
use Rattle.dr_base.specs.Texts.{Text}
use Rattle.dr_cert.specs.Sealing.{Certified}
use Rattle.dr_ledger.specs.Adopting.{IsFit}
use Rattle.dr_ledger.specs.Books.{Book, Adoption, after, empty_book}
use Rattle.dr_plan_model.specs.Networks.{Network}
use Rattle.dr_plan_model.specs.Plans.{IsWellFormed}
use Rattle.dr_site.specs.Parts.{Part}
use Rattle.dr_world_model.specs.Events.{HasNode}
use Rattle.dr_world_model.specs.Runs.{Adopts}
use Rattle.dr_world_model.specs.Steps.{IsLink}
use Rattle.dr_world_model.specs.Worlds.{Link, World}
use Rattle.dr_word_adopt.specs.Beginnings.{OpensThere}
use Rattle.dr_word_adopt.specs.Changes.{ChangesBetween, IsOpenedFor, name_by}
use Rattle.dr_word_adopt.specs.declared.change.Changeover.TheVariants.{Made}
use Rattle.dr_word_adopt.specs.declared.standing.Standing.{Standing}
use Rattle.dr_word_adopt.specs.declared.standing.Standing.TheVariants.{Ready, Over}

-- No node runs: no link is connected at either end, no node's store is to refuse, and what names no
-- node has an empty book.
pub record IsAtRest (plan : Network) (w : World) : Type 0 where
  pub off : (number : ℕ) (link : Link)
      → IsLink w number link
      → (link.caller_connected ≡ false) × (link.receiver_connected ≡ false)
  pub unarmed : (name : Text) → HasNode plan name → set.contains w.armed name ≡ false
  pub strangers : (name : Text) → (HasNode plan name → ⊥) → w.books name ≡ empty_book

-- the node's ledger
abbrev pub ledger_in : {L : Type 0} → Standing L → L
ledger_in (Ready ledger own) = ledger
ledger_in (Over ledger) = ledger

-- the world has the book that the node's ledger has
abbrev pub HasBookOf : {L : Type 0} (site_of : L → Part) (book : L → Book)
    → World → Standing L → Type 0
HasBookOf site_of book w standing =
    w.books (name_by site_of standing) ≡ book (ledger_in standing)

-- The next plan goes on with all that the others have still to send, whoever keeps their books:
-- what no ledger tells. One that never ran has nothing.
abbrev pub AreFit : Network → List Text → World → Type 0
AreFit next others w = (name : Text) → Contains others name → IsFit next name (w.books name)

module _ {L : Type 0} (opens : Text → L → Type 0) (shows : Text → Bool → Type 0)
    (site_of : L → Part) (book : L → Book) (stands : L → Type 0) (folder : Text)
    (old next : Certified) where
  -- the node's ledger as it was opened; one that was of the next plan already is as it is
  abbrev pub IsFirstOf : Standing L → L → Type 0
  IsFirstOf (Ready last own) first =
      IsOpenedFor (OpensThere opens shows) site_of book stands folder old own.name first
  IsFirstOf (Over ledger) first = first ≡ ledger

  -- The world has the book with which the node's ledger was opened. Of a ledger that was of the
  -- next plan already it has one that was fit for that plan, and from which the ledger went over.
  abbrev pub HasFirstBook : World → Standing L → L → Type 0
  HasFirstBook w (Ready last own) first = w.books own.name ≡ book first
  HasFirstBook w (Over ledger) first =
      IsFit next.plan (site_of ledger).name (w.books (site_of ledger).name)
      × (book ledger ≡ after Adoption (w.books (site_of ledger).name))

  -- Where all nodes but the others went over, and the premise of each ledger stands then: of each
  -- world of messages at rest that has the books with which the ledgers were opened, and of which
  -- this is so, there is one that has those with which they are closed, and it is the first after
  -- the adoption of the next plan.
  abbrev pub AreAdopted : List Text → (World → Type 0) → Type 0
  AreAdopted others IsSo =
      IsWellFormed next.plan
      → (all : List (Standing L))
      → ChangesBetween opens shows site_of book stands folder old next others (Ok Made) all
      → All (λ standing. stands (ledger_in standing)) all
      → (firsts : List L)
      × AllZip IsFirstOf all firsts
      × ((w : World)
      → IsAtRest old.plan w
      → IsSo w
      → AllZip (HasFirstBook w) all firsts
      → (new : World)
      × Adopts old.plan w next.plan new
      × All (HasBookOf site_of book new) all)

  -- where some are named, of each such world in which the next plan goes on with their rows
  abbrev pub OursAreAdopted : List Text → Type 0
  OursAreAdopted others = AreAdopted others (AreFit next.plan others)

  -- where none is named, of each such world
  abbrev pub MadeIsAdopted : Type 0
  MadeIsAdopted = AreAdopted [] (λ w. Unit {0})
