-- One node's ledger as it is looked into, before any is changed.
use Rattle.std.specs.Prelude.{◌≡◌, ◌⊎◌, List, [], ◌∷◌, ◌++◌, All, Option, None, Some}
use Rattle.std.specs.Prelude.{map as mapped}
use Rattle.dr_base.specs.Texts.{Text}
use Rattle.dr_cert.specs.Sealing.{Certified}
use Rattle.dr_ledger.specs.Adopting.{Unfits}
use Rattle.dr_ledger.specs.Books.{Book}
use Rattle.dr_ledger.specs.Pairs.{Pair}
use Rattle.dr_run_open.specs.declared.halt.Halt.{Halt}
use Rattle.dr_run_open.specs.declared.halt.Halt.TheVariants.{NoPlan, NoCertificate, NoNode}
use Rattle.dr_run_open.specs.declared.halt.Halt.TheVariants.{NotOpened, NoInstance, Refused}
use Rattle.dr_run_open.specs.declared.halt.Halt.TheVariants.{Receipt, Failed, Memory}
use Rattle.dr_plan_model.specs.Plans.{NamesNoNode}
use Rattle.dr_site.specs.Parts.{Part}
use Rattle.dr_word_adopt.specs.Changes.{IsAsOpened, IsReady, IsUnfitAt, name_by}
use Rattle.dr_word_adopt.specs.declared.change.UnfitRow.{UnfitRow}
use Rattle.dr_word_adopt.specs.declared.standing.Standing.{Standing}
use Rattle.dr_word_adopt.specs.declared.standing.Standing.TheVariants.{Ready, Over}
use Rattle.dr_word_adopt.specs.declared.standing.FoundLedger.{FoundLedger}
use Rattle.dr_word_adopt.specs.declared.standing.FoundLedger.TheVariants.{InForce, Next}

-- why the node of that name isn't looked into: one of the plans has no such node, its ledger isn't
-- opened or can't be read, or want of memory
abbrev pub IsUnseen : Certified → Certified → Text → Halt → Type 0
IsUnseen old next name NoNode = NamesNoNode old.plan name ⊎ NamesNoNode next.plan name
IsUnseen old next name (NotOpened fault) = Unit {0}
IsUnseen old next name (Refused fault) = Unit {0}
IsUnseen old next name Memory = Unit {0}
IsUnseen old next name (NoPlan told) = ⊥
IsUnseen old next name (NoCertificate fault) = ⊥
IsUnseen old next name (NoInstance fault) = ⊥
IsUnseen old next name Receipt = ⊥
IsUnseen old next name (Failed failure) = ⊥

-- a ledger that was opened by the path: it is of the one site or of the other
abbrev pub IsFound : {L : Type 0} (opens : Text → L → Type 0) (site_of : L → Part)
    → Text → Part → Part → FoundLedger L → Type 0
IsFound opens site_of path site own (InForce ledger) = opens path ledger × (site_of ledger ≡ site)
IsFound opens site_of path site own (Next ledger) = opens path ledger × (site_of ledger ≡ own)

-- the ledger that was found, to be changed to the node's part of the next plan
abbrev pub stood : {L : Type 0} → Part → FoundLedger L → Standing L
stood own (InForce ledger) = Ready ledger own
stood own (Next ledger) = Over ledger

module _ {L : Type 0} (site_of : L → Part) (book : L → Book) (stands : L → Type 0)
    (next : Certified) where
  -- A look into the ledger leaves its owner and its book; it shows the first row with which the
  -- next plan doesn't go on, or none. One of the next plan isn't looked into.
  abbrev pub LooksInto : Standing L → Option Pair → Standing L → Type 0
  LooksInto (Ready ledger own) unfit now =
      (last : L) × (now ≡ Ready last own) × (site_of last ≡ site_of ledger)
      × (stands last
      → stands ledger × (book last ≡ book ledger)
      × Unfits next.plan (site_of ledger).name (book ledger) unfit)
  LooksInto (Over ledger) unfit now = (unfit ≡ None) × (now ≡ Over ledger)

module _ {L : Type 0} (opens : Text → L → Type 0) (site_of : L → Part) (book : L → Book)
    (stands : L → Type 0) (folder : Text) (old next : Certified) where
  -- the node's ledger as it was opened
  abbrev pub StandsAt : Text → Standing L → Type 0
  StandsAt name standing =
      (name_by site_of standing ≡ name)
      × IsAsOpened opens site_of book stands folder old next standing

  -- what a look shows of the ledger
  abbrev pub IsSeen : Option Pair → Standing L → Type 0
  IsSeen None standing = IsReady opens site_of book stands folder old next standing
  IsSeen (Some row) standing =
      IsUnfitAt opens site_of book stands folder old next row.0 row.1 standing

  -- The node's ledger is one more behind those that were opened; and a look shows this of it.
  abbrev pub LooksAs : Text → Option Pair → List (Standing L) → List (Standing L) → Type 0
  LooksAs name unfit was all =
      (one : Standing L)
      × (all ≡ was ++ one ∷ []) × (name_by site_of one ≡ name) × IsSeen unfit one

  -- the node's ledger isn't looked into: it may be one more behind those that were opened
  abbrev pub MayAdd : Text → List (Standing L) → List (Standing L) → Type 0
  MayAdd name was all =
      (all ≡ was) ⊎ ((one : Standing L) × (all ≡ was ++ one ∷ []) × StandsAt name one)

  -- what looks at these nodes' ledgers show, one after the other, up to the first unfit row
  abbrev pub AllLookAs : List Text → Option UnfitRow → List (Standing L) → Type 0
  AllLookAs names None all =
      (mapped (name_by site_of) all ≡ names)
      × All (IsReady opens site_of book stands folder old next) all
  AllLookAs names (Some unfit) all =
      (before : List (Standing L)) × (one : Standing L) × (later : List Text)
      × (all ≡ before ++ one ∷ [])
      × (names ≡ mapped (name_by site_of) before ++ unfit.node ∷ later)
      × (name_by site_of one ≡ unfit.node)
      × All (IsReady opens site_of book stands folder old next) before
      × IsUnfitAt opens site_of book stands folder old next unfit.uid unfit.dest one
