-- Laws of adoptions.
use Rattle.std.specs.Prelude.{◌≡◌, ◌+◌, ℕ, List, [], Option}
use Rattle.sqlite.specs.Tree.{Trees}
use Rattle.dr_site.specs.Parts.{Part}
use Rattle.dr_ledger.specs.Books.{Adoption, Line, after}
use Rattle.dr_store_schema.specs.Books.{AreBelow, bodies_of, book_of}
use Rattle.dr_store_calls.specs.Calling.{IsLedgerOf}
use Rattle.dr_store_calls.specs.Adoptions.{AdoptsPlan, IsAdopted}
use Rattle.dr_store_calls.specs.Owners.{IsOwnedBy, IsOwnedSo, seal_in}

-- What an adoption makes of the tables is what it makes of the book; the data sets are the same.
abbrev pub AdoptionsAdopt : Type 0
AdoptionsAdopt =
    (old new : Trees) (plan : List ℕ) (n : ℕ) (moment : Option ℕ)
    → AreBelow n (old 11) → AdoptsPlan plan n moment old new
    → (book_of new ≡ after Adoption (book_of old)) × (bodies_of new ≡ bodies_of old)

-- An adoption makes of the tables of a ledger, of whatever site and over whatever past, those of a
-- ledger of the next site, of whatever plan, where that one owns them then, with the same seal.
abbrev pub AdoptedLedgersAreOfTheNext : Type 0
AdoptedLedgersAreOfTheNext =
    (past : List Line) (part next : Part) (old new : Trees) (plan : List ℕ) (n : ℕ)
    (moment : Option ℕ)
    → AreBelow n (old 11) → IsLedgerOf past n part old → AdoptsPlan plan n moment old new
    → IsOwnedBy next new → seal_in new ≡ seal_in old
    → IsLedgerOf past (n + 1) next new

-- Tables have one owner: one node, one plan, one mark, and one seal.
abbrev pub OwnersAreOne : Type 0
OwnersAreOne =
    (mark seal last end : List ℕ) (part other : Part) (db : Trees)
    → IsOwnedSo mark seal part db → IsOwnedSo last end other db
    → (part.name ≡ other.name) × (part.digest ≡ other.digest) × (mark ≡ last) × (seal ≡ end)

-- Whatever mark and seal were before an adoption, they are the same after it.
abbrev pub AdoptionsKeepMarkAndSeal : Type 0
AdoptionsKeepMarkAndSeal =
    (part next : Part) (mark seal : List ℕ) (base db : Trees)
    → IsAdopted next base db → IsOwnedSo mark seal part base → IsOwnedSo mark seal next db

-- So the lines that have left the tables go as far after it as before.
abbrev pub AdoptionsKeepTheSeal : Type 0
AdoptionsKeepTheSeal =
    (next : Part) (base db : Trees) → IsAdopted next base db → seal_in db ≡ seal_in base

-- Where site has no row, nobody owns the tables.
abbrev pub EmptyTablesAreOwnedByNone : Type 0
EmptyTablesAreOwnedByNone = (part : Part) (db : Trees) → db 0 ≡ [] → IsOwnedBy part db → ⊥
