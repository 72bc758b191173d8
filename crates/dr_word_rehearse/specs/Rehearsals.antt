-- The rehearsal of a change of the plan at all nodes.
use Rattle.std.specs.Prelude.{◌≡◌, ◌⊎◌, Bool, List, [], ◌++◌, All, Contains, map as mapped, Result}
use Rattle.std.specs.Prelude.{Ok}
use Rattle.std.specs.Prelude.{Err}
use Rattle.dr_base.specs.Texts.{Text}
use Rattle.dr_cert.specs.Sealing.{Certified}
use Rattle.dr_ledger.specs.Books.{Book}
use Rattle.dr_plan_model.specs.Plans.{NamesNoNode}
use Rattle.dr_run_open.specs.declared.halt.Halt.{Halt}
use Rattle.dr_run_open.specs.declared.halt.Halt.TheVariants.{NoPlan, NoCertificate, NoNode}
use Rattle.dr_run_open.specs.declared.halt.Halt.TheVariants.{NotOpened, NoInstance, Refused}
use Rattle.dr_run_open.specs.declared.halt.Halt.TheVariants.{Receipt, Failed, Memory}
use Rattle.dr_site.specs.Parts.{Part}
use Rattle.dr_word_adopt.specs.Beginnings.{AreToGo, IsNotBegun}
use Rattle.dr_word_adopt.specs.Changes.{AreSealed, AreUnsealed}
use Rattle.dr_word_adopt.specs.declared.change.Halted.{Halted}
use Rattle.dr_word_line.specs.declared.words.PlanChange.{PlanChange}
use Rattle.dr_word_rehearse.specs.Looks.{IsLooked}
use Rattle.dr_word_rehearse.specs.declared.looking.LedgerLook.{LedgerLook}
use Rattle.dr_word_rehearse.specs.declared.looking.Looked.{Looked}

-- the node of a look
abbrev pub node_of : Looked → Text
node_of looked = looked.node

-- what a look shows of the node of that name
abbrev pub looked : Text → LedgerLook → Looked
looked name look = record { node = name; look = look }

-- the halt of a rehearsal that stops
abbrev pub halt_of : {A : Type 0} → Result A Halted → Result A Halt
halt_of (Ok done) = Ok done
halt_of (Err stop) = Err stop.halt

module _ {L : Type 0} (opens : Text → L → Type 0) (site_of : L → Part) (book : L → Book)
    (stands : L → Type 0) (folder : Text) (old next : Certified) where
  -- what was shown of the nodes is so
  abbrev pub AreLooked : List Looked → Type 0
  AreLooked all =
      All (λ (it : Looked). IsLooked opens site_of book stands folder old next it.node it.look) all

  -- Looks at the nodes of these names, in their order: at all of them, or at the first ones, up to
  -- one that isn't a node of both plans, or whose ledger isn't opened or can't be read, or up to
  -- where there was no memory.
  abbrev pub LooksAt : List Text → Result (Unit {0}) Halt → List Looked → Type 0
  LooksAt names (Ok done) all = (mapped node_of all ≡ names) × AreLooked all
  LooksAt names (Err NoNode) all =
      ((name : Text) × Contains names name
      × (NamesNoNode old.plan name ⊎ NamesNoNode next.plan name))
      × AreLooked all
  LooksAt names (Err (NotOpened fault)) all =
      ((later : List Text) × (names ≡ mapped node_of all ++ later)) × AreLooked all
  LooksAt names (Err (Refused fault)) all =
      ((later : List Text) × (names ≡ mapped node_of all ++ later)) × AreLooked all
  LooksAt names (Err Memory) all = AreLooked all
  LooksAt names (Err (NoPlan told)) all = ⊥
  LooksAt names (Err (NoCertificate fault)) all = ⊥
  LooksAt names (Err (NoInstance fault)) all = ⊥
  LooksAt names (Err Receipt) all = ⊥
  LooksAt names (Err (Failed failure)) all = ⊥

  -- the same of all nodes of the plan in force but the others, none of which has a file, by the
  -- bytes of their names; or no node is looked at
  abbrev pub RehearsesBetween : (Text → Bool → Type 0) → List Text → Result (Unit {0}) Halt
      → List Looked → Type 0
  RehearsesBetween shows others came all =
      ((ours : List Text) × AreToGo shows folder old.plan next.plan others ours
      × LooksAt ours came all)
      ⊎ ((halt : Halt) × (came ≡ Err halt) × (all ≡ [])
      × IsNotBegun old.plan next.plan others halt)

-- what comes of the rehearsal of a change from the plan in the first file to that in the third,
-- each with its certificate, of the ledgers in the folder, of all nodes but the others
abbrev pub RehearsesFiles : {L : Type 0} (holds : Text → Text → Type 0) (opens : Text → L → Type 0)
    (shows : Text → Bool → Type 0) (site_of : L → Part) (book : L → Book) (stands : L → Type 0)
    → PlanChange → List Text → Result (Unit {0}) Halt → List Looked → Type 0
RehearsesFiles holds opens shows site_of book stands files others came all =
    ((old next : Certified)
    × AreSealed holds files old next
    × RehearsesBetween opens site_of book stands files.folder.now old next shows others came all)
    ⊎ ((halt : Halt) × (came ≡ Err halt) × (all ≡ []) × AreUnsealed holds files halt)
