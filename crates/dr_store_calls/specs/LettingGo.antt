-- What goes of the data sets with a call, and then of the cells on the shelf. `Used` and `Stood`
-- say which cells were in use before the call and for which bytes they stood, `Uses` and `Stands`
-- say it of those after it, and `Apart` says which two can be let go one without the other.
use Rattle.std.specs.Prelude.{◌≡◌, ◌≢◌, ℕ, Bool, true, false, List, Option, Some, None, Result}
use Rattle.std.specs.Prelude.{Ok, Err}
use Rattle.std.specs.FinMap as map
use Rattle.sqlite.specs.Tree.{Trees}
use Rattle.dr_base.specs.Texts.{Text}
use Rattle.dr_ledger.specs.declared.content.Job.{Job}
use Rattle.dr_ledger.specs.declared.fault.LedgerFault.{LedgerFault}
use Rattle.dr_ledger.specs.Bodies.{Bodies, OnlyLetsGo}
use Rattle.dr_store_shelf.specs.Shelves.{KeepsCells}
use Rattle.dr_store_schema.specs.Books.{bodies_of}

-- ---- the tables

-- an answer that tells too whether a data set went, without that
abbrev pub plain : Result Bool LedgerFault → Result (Unit {0}) LedgerFault
plain (Ok went) = Ok tt
plain (Err why) = Err why

-- an answer, with whether a data set went where the call was accepted
abbrev pub telling : Bool → Result (Unit {0}) LedgerFault → Result Bool LedgerFault
telling went (Ok done) = Ok went
telling went (Err why) = Err why

-- With this answer the cell of that uid, which was there, went; or all cells stay.
abbrev pub GoesWith : Result Bool LedgerFault → Text → Trees → Trees → Type 0
GoesWith (Ok true) uid base db =
    ((cell : List ℕ) × (map.get (bodies_of base) uid ≡ Some cell))
    × (bodies_of db ≡ map.remove (bodies_of base) uid)
GoesWith (Ok false) uid base db = bodies_of db ≡ bodies_of base
GoesWith (Err why) uid base db = bodies_of db ≡ bodies_of base

-- each two of them can be let go one without the other
abbrev pub AreEachApart : (List ℕ → List ℕ → Type 0) → Bodies → Type 0
AreEachApart Apart cells =
    (uid other : Text) (cell beside : List ℕ)
    → uid ≢ other
    → map.get cells uid ≡ Some cell
    → map.get cells other ≡ Some beside
    → Apart cell beside

-- the cell of that uid, if there is one, is that of the job; where none was looked for, it names no
-- place
abbrev pub IsCellOf : (List ℕ → List ℕ → Type 0) → Text → Trees → Option Job → Type 0
IsCellOf Apart uid db None =
    (cell : List ℕ) → map.get (bodies_of db) uid ≡ Some cell → Apart cell cell
IsCellOf Apart uid db (Some job) =
    (cell : List ℕ) → map.get (bodies_of db) uid ≡ Some cell → cell ≡ job.body

-- ---- the shelf

-- the cell of this job, if there is one, is in use no more where it names a place
abbrev pub IsGone : (List ℕ → List ℕ → Type 0) → (List ℕ → Type 0) → Option Job → Type 0
IsGone Apart Uses None = Unit {0}
IsGone Apart Uses (Some job) = (Apart job.body job.body → ⊥) → Uses job.body → ⊥

-- each cell that can be let go without this job's, if there is one, is in use still, and stands for
-- what it stood for
abbrev pub KeepsApart : (List ℕ → List ℕ → Type 0)
    → (Used : List ℕ → Type 0)
    → (Stood : List ℕ → List ℕ → Type 0)
    → (Uses : List ℕ → Type 0)
    → (Stands : List ℕ → List ℕ → Type 0)
    → Option Job → Type 0
KeepsApart Apart Used Stood Uses Stands None = KeepsCells Used Stood Uses Stands
KeepsApart Apart Used Stood Uses Stands (Some job) =
    (other : List ℕ)
    → Apart job.body other
    → Used other
    → Uses other × ((bytes : List ℕ) → Stood other bytes → Stands other bytes)

-- what is on the shelf after a call with this answer
abbrev pub LeavesCells : (List ℕ → List ℕ → Type 0)
    → (Used : List ℕ → Type 0)
    → (Stood : List ℕ → List ℕ → Type 0)
    → (Uses : List ℕ → Type 0)
    → (Stands : List ℕ → List ℕ → Type 0)
    → Option Job → Result Bool LedgerFault → Type 0
LeavesCells Apart Used Stood Uses Stands found (Ok true) =
    IsGone Apart Uses found × KeepsApart Apart Used Stood Uses Stands found
LeavesCells Apart Used Stood Uses Stands found (Ok false) = KeepsCells Used Stood Uses Stands
LeavesCells Apart Used Stood Uses Stands found (Err why) = KeepsCells Used Stood Uses Stands

-- ---- both

-- A call lets cells go: none comes. Where each two of them could be let go one without the other,
-- each that is left is in use and stands for what it stood for. One that went is in use no more,
-- where it names a place.
pub record LetsCellsGo (Apart : List ℕ → List ℕ → Type 0) (Used : List ℕ → Type 0)
    (Stood : List ℕ → List ℕ → Type 0) (Uses : List ℕ → Type 0)
    (Stands : List ℕ → List ℕ → Type 0) (base db : Trees) : Type 0 where
  pub lets : OnlyLetsGo (bodies_of base) (bodies_of db)
  pub keeps : AreEachApart Apart (bodies_of base) → (uid : Text) (cell : List ℕ)
      → map.get (bodies_of db) uid ≡ Some cell
      → Used cell
      → Uses cell × ((bytes : List ℕ) → Stood cell bytes → Stands cell bytes)
  pub gone : (uid : Text) (cell : List ℕ)
      → map.get (bodies_of base) uid ≡ Some cell
      → map.get (bodies_of db) uid ≡ None
      → (Apart cell cell → ⊥)
      → Uses cell
      → ⊥
