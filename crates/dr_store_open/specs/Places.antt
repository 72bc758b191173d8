-- Where the data sets of a ledger are, as the owner's row of its tables says it, and its shelf.
use Rattle.std.specs.Prelude.{◌≡◌, ℕ, Bool, true, false, List, []}
use Rattle.sqlite.specs.Tree.{Trees}
use Rattle.sqlite_disk.specs.declared.Disk.{Ghosts}
use Rattle.sqlite_disk.specs.Disk.{Only}
use Rattle.dr_base.specs.Texts.{Text}
use Rattle.dr_site.specs.Parts.{Part}
use Rattle.dr_store_bodies.specs.declared.extent.Extent.{Extent}
use Rattle.dr_store_bodies.specs.declared.bodies.Bodies.{Bodies}
use Rattle.dr_store_bodies.specs.Bodies.{IsClean, extents, seen}
use Rattle.dr_store_shelf.specs.declared.either.LedgerShelf.{LedgerShelf}
use Rattle.dr_store_shelf.specs.declared.either.LedgerShelf.TheVariants.{InRow as Rows}
use Rattle.dr_store_shelf.specs.declared.either.LedgerShelf.TheVariants.{InFile as File}
use Rattle.dr_store_shelf.specs.Either.{AreApartIf, UsesOn, named_on}
use Rattle.dr_store_data.specs.declared.mark.DataMark.{DataMark}
use Rattle.dr_store_data.specs.Heads.{HasHead, IsMarkOf}
use Rattle.dr_store_data.specs.Opened.{HasExtents}
use Rattle.dr_store_calls.specs.Owners.{IsOwnedWith}
use Rattle.dr_store.specs.Owning.{HaveOwn}
use Rattle.dr_store_open.specs.declared.data.Keeping.{Keeping}
use Rattle.dr_store_open.specs.declared.data.Keeping.TheVariants as keeping
use Rattle.dr_store_open.specs.declared.data.DataPlace.{DataPlace}
use Rattle.dr_store_open.specs.declared.data.DataPlace.TheVariants.{InRows, InFile}
use Rattle.dr_store_open.specs.DataSets.{IsOwn}

-- the site's tables have no mark, or they have one, which says this key and the mark of the file
abbrev pub IsPlaceOf : Part → Trees → DataPlace → Type 0
IsPlaceOf part db InRows = IsOwnedWith [] part db
IsPlaceOf part db (InFile said) =
    (mark : List ℕ) × IsOwnedWith mark part db × IsMarkOf mark said

-- whether the cells of a new ledger name places
abbrev pub names_in : Keeping → Bool
names_in keeping.InRows = false
names_in keeping.InFile = true

-- whether the cells of a ledger whose data sets are there name places
abbrev pub names_at : DataPlace → Bool
names_at InRows = false
names_at (InFile said) = true

-- the bytes of a mark, which is nothing where the data sets are in rows, say this place
abbrev pub IsPlaceIn : List ℕ → DataPlace → Type 0
IsPlaceIn mark InRows = mark ≡ []
IsPlaceIn mark (InFile said) = IsMarkOf mark said

-- what is shown has a ledger's head, with some mark
abbrev pub HasSomeHead : List ℕ → Type 0
HasSomeHead shown = (mark : List ℕ) × HasHead mark shown

-- a file that shows this has the head of the mark, and whatever a crash leaves of it
abbrev pub IsBegun : DataMark → List ℕ → (List ℕ → Type 0) → Type 0
IsBegun said seen may_leave = HasHead said.mark seen × Only seen may_leave

module _ {D : Type 0} {g : Ghosts D} where
  -- digests are taken under that key, and the file shows the head with that mark, unless a wrong
  -- answer of it was taken as true
  abbrev pub IsUnder : DataMark → ℕ → Bodies D g → Type 0
  IsUnder said key file = (key ≡ said.key) × (IsClean file → HasHead said.mark (seen file))

  -- what is seen of the shelf's file, if it has one
  abbrev pub seen_on : LedgerShelf D g → List ℕ
  seen_on (Rows it) = []
  seen_on (File it) = seen it.bodies

  -- where it is over a file, that file shows this
  abbrev pub ShowsFile : List ℕ → LedgerShelf D g → Type 0
  ShowsFile shown (Rows it) = Unit {0}
  ShowsFile shown (File it) = seen it.bodies ≡ shown

  -- the shelf is in that place
  abbrev pub IsAt : DataPlace → LedgerShelf D g → Type 0
  IsAt InRows (Rows it) = Unit {0}
  IsAt InRows (File it) = ⊥
  IsAt (InFile said) (Rows it) = ⊥
  IsAt (InFile said) (File it) = IsUnder said it.key it.bodies

  -- it is in a file, under that key and with that mark, and in use are the extents of the list
  abbrev pub IsFileWith : DataMark → List Extent → LedgerShelf D g → Type 0
  IsFileWith said list (Rows it) = ⊥
  IsFileWith said list (File it) =
      IsUnder said it.key it.bodies × HasExtents list (extents it.bodies)

  -- The shelf is where the tables say: its cells name places just where they have a mark, and then
  -- it is over a file with that mark, and under their key.
  pub record IsPlacedBy (part : Part) (db : Trees) (shelf : LedgerShelf D g) : Type 0 where
    pub place : DataPlace
    pub says : IsPlaceOf part db place
    pub at : IsAt place shelf

  -- The cells of the tables are in use on the shelf, and each two can be let go one without the
  -- other. Where they name no places, each is the data set of its item.
  pub record HasOwnOn (db : Trees) (shelf : LedgerShelf D g) : Type 0 where
    pub cells : HaveOwn (UsesOn shelf) (AreApartIf (named_on shelf)) db
    pub rows : named_on shelf ≡ false → (uid : Text) → IsOwn uid db
