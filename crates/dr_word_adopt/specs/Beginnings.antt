-- Where ledgers are, and whose are to go over, before any is opened.
use Rattle.std.specs.Prelude.{◌≡◌, ◌≢◌, ◌⊎◌, [], Bool, true, false, List, All, Contains, ◌++◌}
use Rattle.std.specs.Prelude.{codes}
use Rattle.dr_base.specs.Texts.{Text}
use Rattle.dr_plan_model.specs.Networks.{Network}
use Rattle.dr_run_open.specs.declared.halt.Halt.{Halt}
use Rattle.dr_run_open.specs.declared.halt.Halt.TheVariants.{NoPlan, NoCertificate, NoNode}
use Rattle.dr_run_open.specs.declared.halt.Halt.TheVariants.{NotOpened, NoInstance, Refused}
use Rattle.dr_run_open.specs.declared.halt.Halt.TheVariants.{Receipt, Failed, Memory}
use Rattle.dr_run_open.specs.declared.ledgers.OpenFault.TheVariants as opening
use Rattle.dr_word_adopt.specs.Names.{AreOurs, IsUnnamed}

-- the path of a node's ledger in the folder
abbrev pub path_in : Text → Text → Text
path_in folder name = folder ++ codes "/" ++ name ++ codes ".db"

-- a ledger that may be opened by a path at which something is there: it isn't made
abbrev pub OpensThere : {L : Type 0} (opens : Text → L → Type 0) (shows : Text → Bool → Type 0)
    → Text → L → Type 0
OpensThere opens shows path ledger = opens path ledger × shows path true

-- why one of these nodes is refused: it has a file, or a name of which no path can be made; or want
-- of memory
abbrev pub IsRefusedFor : List Text → Halt → Type 0
IsRefusedFor names (NotOpened fault) = (name : Text) × Contains names name
IsRefusedFor names Memory = Unit {0}
IsRefusedFor names NoNode = ⊥
IsRefusedFor names (Refused fault) = ⊥
IsRefusedFor names (NoPlan told) = ⊥
IsRefusedFor names (NoCertificate fault) = ⊥
IsRefusedFor names (NoInstance fault) = ⊥
IsRefusedFor names Receipt = ⊥
IsRefusedFor names (Failed failure) = ⊥

module _ (shows : Text → Bool → Type 0) (folder : Text) where
  -- nothing is there in the place of the node's ledger
  abbrev pub HasNoFile : Text → Type 0
  HasNoFile name = shows (path_in folder name) false

  -- The ledgers of these nodes are to go over from the one plan to the next, of one at least; none
  -- of the others has one in the folder.
  pub record AreToGo (old next : Network) (others ours : List Text) : Type 0 where
    pub are : AreOurs old next others ours
    pub some : ours ≢ []
    pub none : All HasNoFile others

-- why no ledger is opened: it isn't known which are to go over, one of the others is refused, or
-- all nodes are others
abbrev pub IsNotBegun : Network → Network → List Text → Halt → Type 0
IsNotBegun old next others halt =
    IsUnnamed old next others halt
    ⊎ IsRefusedFor others halt
    ⊎ ((halt ≡ NotOpened opening.NoLedger) × AreOurs old next others [])
