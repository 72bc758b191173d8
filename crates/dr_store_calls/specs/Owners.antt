-- Whose the tables of a ledger are, and what they say of lines that have left them.
use Rattle.std.specs.Prelude.{◌≡◌, ◌%◌, ◌++◌, ◌⊎◌, ℕ, List, [], ◌∷◌, drop, length}
use Rattle.sqlite.specs.Order.{Row, column}
use Rattle.sqlite.specs.Tree.{Trees}
use Rattle.dr_site.specs.Parts.{Part}
use Rattle.dr_store_sealed.specs.declared.seal.Seal.{Seal}
use Rattle.dr_store_sealed.specs.InTables.{IsSealText, seal_said}
use Rattle.dr_store_schema.specs.Cells.{bytes_in}
use Rattle.dr_store_writes.specs.Effects.{IsSiteOf}

-- nothing, where the data sets are in rows, or the 24 bytes of a key and of the mark of the file
-- that has them
abbrev pub IsMark : List ℕ → Type 0
IsMark mark = (mark ≡ []) ⊎ (length mark ≡ 24)

-- the bytes are a mark, and a seal right behind it: the four lengths that the two have together
-- differ, so that the bytes are of one mark and of one seal
pub record IsMarkAndSeal (mark seal bytes : List ℕ) : Type 0 where
  pub marked : IsMark mark
  pub sealed : IsSealText seal
  pub is : bytes ≡ mark ++ seal

-- what site has for a plan: its SHA-256, which has 32 bytes, and right behind it mark and seal
pub record IsPlanWith (mark seal digest cell : List ℕ) : Type 0 where
  pub long : length digest ≡ 32
  pub marked : IsMark mark
  pub sealed : IsSealText seal
  pub is : cell ≡ digest ++ (mark ++ seal)

-- the tables are owned by the site: by its node, under its plan, with this mark and this seal
abbrev pub IsOwnedSo : List ℕ → List ℕ → Part → Trees → Type 0
IsOwnedSo mark seal part db =
    (cell : List ℕ) × IsPlanWith mark seal part.digest cell × IsSiteOf part.name cell db

-- with this mark, and some seal
abbrev pub IsOwnedWith : List ℕ → Part → Trees → Type 0
IsOwnedWith mark part db = (seal : List ℕ) × IsOwnedSo mark seal part db

-- with some mark
abbrev pub IsOwnedBy : Part → Trees → Type 0
IsOwnedBy part db = (mark : List ℕ) × IsOwnedWith mark part db

-- what site has for a plan, in its first row
abbrev pub cell_in : List Row → List ℕ
cell_in [] = []
cell_in (row ∷ more) = bytes_in (column row 3)

-- what follows a mark: a seal has 56 bytes or none, so what is left over from 56 is the mark
abbrev pub behind_mark : List ℕ → List ℕ
behind_mark bytes = drop (length bytes % 56) bytes

-- how far the lines go that have left the tables, as site says it behind plan and mark
abbrev pub seal_in : Trees → Seal
seal_in db = seal_said (behind_mark (drop 32 (cell_in (db 0))))
