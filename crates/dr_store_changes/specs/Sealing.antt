-- What a sealing makes of the tables.
use Rattle.std.specs.Prelude.{◌≡◌, ℕ, List, []}
use Rattle.sqlite.specs.Tree.{Trees}
use Rattle.dr_base.specs.Texts.{Text}
use Rattle.dr_ledger.specs.Books.{Book}
use Rattle.dr_store_schema.specs.Books.{bodies_of, book_of}
use Rattle.dr_store_writes.specs.Effects.{HasSite, HaveNumbers, IsSiteOf}
use Rattle.dr_store_changes.specs.Changes.{AreTogether}

-- there is an owner, and each line can be found
abbrev pub CanBeSealed : Trees → Type 0
CanBeSealed db = HasSite db × HaveNumbers (db 11)

-- No line is left, nor where one goes on to, and site has this for the plan in force, for the same
-- node. All else stays.
pub record SealsLines (plan : List ℕ) (old new : Trees) : Type 0 where
  pub journal : new 11 ≡ []
  pub targets : new 12 ≡ []
  pub site : (node : Text) (was : List ℕ) → IsSiteOf node was old → IsSiteOf node plan new
  pub items : new 1 ≡ old 1
  pub prints : new 3 ≡ old 3
  pub arrivals : new 5 ≡ old 5
  pub kept : new 7 ≡ old 7
  pub queue : new 9 ≡ old 9

-- the same book, but for its lines, of which it has none
abbrev pub without_lines : Book → Book
without_lines b = record {
  items = b.items;
  arrivals = b.arrivals;
  kept = b.kept;
  rows = b.rows;
  lines = [];
}

-- What a sealing makes of the tables takes the lines out of the book, and nothing else: the data
-- sets are the same, and each item is beside its print as it was.
pub record SealingsTakeJustLines : Type 0 where
  pub book : (plan : List ℕ) (old new : Trees) → SealsLines plan old new
      → book_of new ≡ without_lines (book_of old)
  pub bodies : (plan : List ℕ) (old new : Trees) → SealsLines plan old new
      → bodies_of new ≡ bodies_of old
  pub together : (plan : List ℕ) (old new : Trees) → SealsLines plan old new
      → AreTogether old → AreTogether new
