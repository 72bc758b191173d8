-- The change of the plan at all nodes: each node's ledger is looked into, and only then each is
-- brought over.
use Rattle.std.specs.Prelude.{◌≡◌, ◌⊎◌, Bool, List, [], ◌∷◌, ◌++◌, map as mapped, All, Contains}
use Rattle.std.specs.Prelude.{Some, Result, Ok, Err}
use Rattle.dr_base.specs.Texts.{Text}
use Rattle.dr_cert.specs.Sealing.{Certified}
use Rattle.dr_ledger.specs.Adopting.{IsFit, Unfits}
use Rattle.dr_ledger.specs.Books.{Book, Adoption, after}
use Rattle.dr_run_open.specs.Openings.{IsSealedBy, SealsFiles}
use Rattle.dr_run_open.specs.declared.halt.Halt.{Halt}
use Rattle.dr_run_open.specs.declared.halt.Halt.TheVariants.{NoPlan, NoCertificate, NoNode}
use Rattle.dr_run_open.specs.declared.halt.Halt.TheVariants.{NotOpened, NoInstance, Refused}
use Rattle.dr_run_open.specs.declared.halt.Halt.TheVariants.{Receipt, Failed, Memory}
use Rattle.dr_word_line.specs.declared.words.PlanChange.{PlanChange}
use Rattle.dr_plan_model.specs.Plans.{NamesNoNode}
use Rattle.dr_site.specs.Parts.{Part, IsPartOf}
use Rattle.dr_word_adopt.specs.Beginnings.{AreToGo, IsNotBegun, OpensThere, path_in}
use Rattle.dr_word_adopt.specs.declared.change.Changeover.{Changeover}
use Rattle.dr_word_adopt.specs.declared.change.Changeover.TheVariants.{Made, Unfit}
use Rattle.dr_word_adopt.specs.declared.change.Halted.{Halted}
use Rattle.dr_word_adopt.specs.declared.standing.Standing.{Standing}
use Rattle.dr_word_adopt.specs.declared.standing.Standing.TheVariants.{Ready, Over}

-- the site is that of the node of this name, by the sealed plan
pub record IsSiteAt (sealed : Certified) (name : Text) (site : Part) : Type 0 where
  pub part : IsPartOf sealed.plan sealed.certificate site
  pub named : site.name ≡ name

-- the name of the node whose ledger stands so
abbrev pub name_by : {L : Type 0} (site_of : L → Part) → Standing L → Text
name_by site_of (Ready ledger own) = own.name
name_by site_of (Over ledger) = (site_of ledger).name

module _ {L : Type 0} (opens : Text → L → Type 0) (site_of : L → Part) (book : L → Book)
    (stands : L → Type 0) (folder : Text) where
  -- a ledger that may be opened for the node of that name, of its site by the sealed plan
  pub record IsOpenedFor (sealed : Certified) (name : Text) (ledger : L) : Type 0 where
    pub opened : opens (path_in folder name) ledger
    pub at : IsSiteAt sealed name (site_of ledger)

  module _ (old next : Certified) where
    -- The ledger is left as it was opened: one of the plan in force has its owner and its book
    -- still, of which this holds; one of the next plan wasn't touched.
    abbrev pub IsLeft : (Text → Book → Type 0) → Standing L → Type 0
    IsLeft Shows (Ready last own) =
        (first : L)
        × IsOpenedFor old own.name first
        × IsPartOf next.plan next.certificate own
        × (site_of last ≡ site_of first)
        × (stands last → stands first × (book last ≡ book first) × Shows own.name (book first))
    IsLeft Shows (Over ledger) = IsOpenedFor next (site_of ledger).name ledger

    -- whatever its book
    abbrev pub IsAsOpened : Standing L → Type 0
    IsAsOpened standing = IsLeft (λ name b. Unit {0}) standing

    -- the node may go over: the next plan goes on with all that it has still to send, or its ledger
    -- is of that plan already
    abbrev pub IsReady : Standing L → Type 0
    IsReady standing = IsLeft (IsFit next.plan) standing

    -- the first row, by (uid, destination), with which the next plan doesn't go on is that of this
    -- instance to that node
    abbrev pub IsUnfitAt : Text → Text → Standing L → Type 0
    IsUnfitAt uid dest (Ready last own) =
        IsLeft (λ name b. Unfits next.plan name b (Some (uid, dest))) (Ready last own)
    IsUnfitAt uid dest (Over ledger) = ⊥

    -- The node went over: its ledger is of its site by the next plan, and its book is that with
    -- which it was opened after an adoption; or it was of the next plan already.
    abbrev pub IsOver : Standing L → Type 0
    IsOver (Ready last own) =
        (first : L)
        × IsOpenedFor old own.name first
        × IsPartOf next.plan next.certificate own
        × (site_of last ≡ own)
        × (stands last
        → stands first × IsFit next.plan own.name (book first)
        × (book last ≡ after Adoption (book first)))
    IsOver (Over ledger) = IsOpenedFor next (site_of ledger).name ledger

    -- the first ledgers went over, and all others are left as they were opened
    abbrev pub OnlyFirstAreOver : List (Standing L) → Type 0
    OnlyFirstAreOver all =
        (done later : List (Standing L))
        × (all ≡ done ++ later) × All IsOver done × All IsAsOpened later

    module _ (ours : List Text) where
      -- the ledgers are those of the first of these nodes
      abbrev pub AreFirst : List (Standing L) → Type 0
      AreFirst all = (later : List Text) × (ours ≡ mapped (name_by site_of) all ++ later)

      -- Why these nodes don't go over, and what the ledgers are then that were opened. One isn't a
      -- node of both plans, or a ledger isn't opened: then all are left. A ledger refused, or there
      -- was no memory: then the first ones may be over, and all others are left, that one too as
      -- far as it stands.
      abbrev pub StopsAt : Halt → List (Standing L) → Type 0
      StopsAt NoNode all =
          ((name : Text) × Contains ours name
          × (NamesNoNode old.plan name ⊎ NamesNoNode next.plan name))
          × All IsAsOpened all
      StopsAt (NotOpened fault) all = AreFirst all × All IsAsOpened all
      StopsAt (Refused fault) all = AreFirst all × OnlyFirstAreOver all
      StopsAt Memory all = OnlyFirstAreOver all
      StopsAt (NoPlan told) all = ⊥
      StopsAt (NoCertificate fault) all = ⊥
      StopsAt (NoInstance fault) all = ⊥
      StopsAt Receipt all = ⊥
      StopsAt (Failed failure) all = ⊥

      -- What comes of the change of these nodes, and what the ledgers are then that were opened.
      -- All are over. Or the first that isn't ready is named with its first row that isn't fit:
      -- then no ledger behind it was opened, and all are left. Or why it doesn't come to that.
      abbrev pub ChangesOf : Result Changeover Halt → List (Standing L) → Type 0
      ChangesOf (Ok Made) all = (mapped (name_by site_of) all ≡ ours) × All IsOver all
      ChangesOf (Ok (Unfit name uid dest)) all =
          (before : List (Standing L)) × (one : Standing L) × (later : List Text)
          × (all ≡ before ++ one ∷ [])
          × (ours ≡ mapped (name_by site_of) before ++ name ∷ later)
          × (name_by site_of one ≡ name)
          × All IsReady before × IsUnfitAt uid dest one
      ChangesOf (Err halt) all = StopsAt halt all

module _ {L : Type 0} (opens : Text → L → Type 0) (shows : Text → Bool → Type 0)
    (site_of : L → Part) (book : L → Book) (stands : L → Type 0) (folder : Text)
    (old next : Certified) (others : List Text) where
  -- these nodes are to go over, by ledgers that are there, and that comes of it
  abbrev pub GoOver : List Text → Result Changeover Halt → List (Standing L) → Type 0
  GoOver ours came all =
      AreToGo shows folder old.plan next.plan others ours
      × ChangesOf (OpensThere opens shows) site_of book stands folder old next ours came all

  -- What comes of the change of all nodes but the others, and what the ledgers are then that were
  -- opened; or why none was.
  abbrev pub ChangesBetween : Result Changeover Halt → List (Standing L) → Type 0
  ChangesBetween (Ok change) all = (ours : List Text) × GoOver ours (Ok change) all
  ChangesBetween (Err halt) all =
      ((ours : List Text) × GoOver ours (Err halt) all)
      ⊎ ((all ≡ []) × IsNotBegun old.plan next.plan others halt)

  -- the same of ledgers that are closed again
  abbrev pub ComesOf : Result Changeover Halt → Type 0
  ComesOf came = (all : List (Standing L)) × ChangesBetween came all

  -- where a row isn't fit, the owner and the book of each ledger that was opened are as they were
  abbrev pub UnfitLeavesAll : Type 0
  UnfitLeavesAll =
      (name uid dest : Text) (all : List (Standing L))
      → ChangesBetween (Ok (Unfit name uid dest)) all
      → All (IsAsOpened (OpensThere opens shows) site_of book stands folder old next) all

module _ (holds : Text → Text → Type 0) (files : PlanChange) where
  -- both plans, as the files hold them, each sealed with its certificate
  abbrev pub AreSealed : Certified → Certified → Type 0
  AreSealed old next =
      IsSealedBy (holds files.plan.now) (holds files.certificate.now) old
      × IsSealedBy (holds files.next_plan.now) (holds files.next_certificate.now) next

  -- why one of the plans isn't sealed: the first fault of the four files
  abbrev pub AreUnsealed : Halt → Type 0
  AreUnsealed halt =
      SealsFiles (holds files.plan.now) (holds files.certificate.now) (Err halt)
      ⊎ ((old : Certified)
      × IsSealedBy (holds files.plan.now) (holds files.certificate.now) old
      × SealsFiles (holds files.next_plan.now) (holds files.next_certificate.now) (Err halt))

-- what comes of the change from the plan in the first file to that in the third, each with its
-- certificate, of the ledgers in the folder, as they are when they are closed, of all nodes but the
-- others
abbrev pub Changes : {L : Type 0} (holds : Text → Text → Type 0) (opens : Text → L → Type 0)
    (shows : Text → Bool → Type 0) (site_of : L → Part) (book : L → Book) (stands : L → Type 0)
    → PlanChange → List Text → Result Changeover Halt → Type 0
Changes holds opens shows site_of book stands files others came =
    ((old next : Certified)
    × AreSealed holds files old next
    × ComesOf opens shows site_of book stands files.folder.now old next others came)
    ⊎ ((halt : Halt) × (came ≡ Err halt) × AreUnsealed holds files halt)

-- what is said of a change that stops: its halt
abbrev pub came_of : Result Changeover Halted → Result Changeover Halt
came_of (Ok change) = Ok change
came_of (Err stop) = Err stop.halt
