-- Data sets that are read again out of their rows, and the extents that cells name.
use Rattle.std.specs.Prelude.{All, ◌≡◌, ◌≤◌, ℕ, true, cond, List, [], ◌∷◌, ◌++◌}
use Rattle.std.specs.Prelude.{Option, Some, None, length, unwrap_or}
use Rattle.std.specs.FinMap as map
use Rattle.std.specs.List.{flat_map}
use Rattle.sha2.specs.Sha256.{sha256}
use Rattle.sqlite.specs.Tree.{Trees}
use Rattle.dr_base.specs.Texts.{Text}
use Rattle.dr_ledger.specs.declared.content.Job.{Job}
use Rattle.dr_ledger.specs.Items.{IsItem, instance_of}
use Rattle.dr_store_bodies.specs.declared.extent.Extent.{Extent}
use Rattle.dr_store_shelf.specs.Cells.{EndsWithDigests, extent_in}
use Rattle.dr_store_schema.specs.Books.{bodies_of, contents_in, items_of}
use Rattle.dr_store_reads.specs.Queries.{IsJobOf}
use Rattle.dr_store_reads.specs.declared.finding.Print.{Print}

-- the data set in the row of that uid, if it is there, is that of the item
abbrev pub IsOwn : Text → Trees → Type 0
IsOwn uid db =
    (body : List ℕ)
    → map.get (bodies_of db) uid ≡ Some body
    → (item : Job) × IsItem item × (item.body ≡ body)
    × (map.get (items_of db) uid ≡ Some (instance_of item))

-- the data set has this length and this SHA-256
abbrev pub IsSpelled : Job → Print → Type 0
IsSpelled job print = (length job.body ≡ print.size) × (sha256 job.body ≡ print.digest)

-- what stands in the row of that uid for its data set is read as an item of this uid and the row's
-- key, with this print
abbrev pub IsReadAs : Text → Print → Trees → Type 0
IsReadAs uid print db =
    (job : Job) × IsJobOf uid db (Some job) × IsItem job × IsSpelled job print

-- where the print says that the data set is there, it is read as the item's
abbrev pub AreOwnUnder : Trees → Text × Print → Type 0
AreOwnUnder db p = p.1.whole ≡ true → IsReadAs p.0 p.1 db

-- ---- the extents that cells name

-- the extent that the cell in the row of that uid names
abbrev pub IsExtentAt : Text → Trees → Option Extent → Type 0
IsExtentAt uid db None = Unit {0}
IsExtentAt uid db (Some e) =
    (cell : List ℕ)
    × (map.get (contents_in (db 1)) uid ≡ Some cell)
    × EndsWithDigests cell
    × (e ≡ extent_in cell)

-- the cell in the row of that uid names an extent, which comes behind those of the list
abbrev pub AddsExtent : Text → Trees → (old new : List Extent) → Type 0
AddsExtent uid db old new =
    (cell : List ℕ)
    × (map.get (contents_in (db 1)) uid ≡ Some cell)
    × EndsWithDigests cell
    × (new ≡ old ++ extent_in cell ∷ [])

-- the extent of a print whose data set is there
abbrev pub extents_under : Trees → Text × Print → List Extent
extents_under db p =
    cond p.1.whole (extent_in (unwrap_or (map.get (contents_in (db 1)) p.0) []) ∷ []) []

-- where the print says that the data set is there, a cell in its row names an extent
abbrev pub NamesExtent : Trees → Text × Print → Type 0
NamesExtent db p =
    p.1.whole ≡ true
    → (cell : List ℕ) × (map.get (contents_in (db 1)) p.0 ≡ Some cell) × EndsWithDigests cell

-- the list has the extents of these prints, one behind the other, and each names one
pub record AreListed (db : Trees) (prints : List (Text × Print)) (list : List Extent) : Type 0 where
  pub are : list ≡ flat_map (extents_under db) prints
  pub each : All (NamesExtent db) prints

-- they are listed, or nothing is said
abbrev pub AreListedIf : Trees → List (Text × Print) → Option (List Extent) → Type 0
AreListedIf db prints None = Unit {0}
AreListedIf db prints (Some list) = AreListed db prints list
