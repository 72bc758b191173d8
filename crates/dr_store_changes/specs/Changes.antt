-- What the calls that write make of the tables.
use Rattle.std.specs.Prelude.{◌≡◌, ◌==◌, ℕ, Bool, cond, filter, Contains, List, [], ◌∷◌, None}
use Rattle.std.specs.Prelude.{Option}
use Rattle.std.specs.FinSet as set
use Rattle.std.specs.FinMap as map
use Rattle.std.specs.FinMap.{FinMap}
use Rattle.sqlite.specs.Order.{Row}
use Rattle.sqlite.specs.State.{State}
use Rattle.sqlite.specs.Tree.{Trees, put_row}
use Rattle.dr_base.specs.Texts.{Text}
use Rattle.dr_ledger.specs.declared.item.Instance.{Instance}
use Rattle.dr_ledger.specs.declared.item.Progress.{Progress}
use Rattle.dr_ledger.specs.declared.item.Progress.TheVariants.{Waiting, Dropped}
use Rattle.dr_ledger.specs.Books.{with_rows}
use Rattle.dr_ledger.specs.Pairs.{Pair, pair_cmp}
use Rattle.dr_store_schema.specs.Books.{NameSet, all_kept_in, arrivals_in, bodies_of, contents_in}
use Rattle.dr_store_schema.specs.Books.{items_of, names_in, rows_of, wholes_in}
use Rattle.dr_store_writes.specs.Effects.{GoesOn, HasItem, HasPrint, HasRow, dropped_line}
use Rattle.dr_store_writes.specs.Effects.{forgotten_line, is_of_other}

-- ---- items and prints

-- item has a row for a uid just where print has one
abbrev pub AreTogether : Trees → Type 0
AreTogether db =
    (uid : Text)
    → map.contains_key (contents_in (db 1)) uid ≡ map.contains_key (wholes_in (db 3)) uid

-- ---- a data set is let go

-- the item and its print are there
abbrev pub HasBoth : Text → Trees → Type 0
HasBoth uid db = HasItem uid db × HasPrint uid db

-- The data set of that uid is gone. What is known of the items stays, each beside its print, and so
-- do all other tables.
pub record LetsGo (uid : Text) (old new : Trees) : Type 0 where
  pub items : items_of new ≡ items_of old
  pub bodies : bodies_of new ≡ map.remove (bodies_of old) uid
  pub together : AreTogether old → AreTogether new
  pub site : new 0 ≡ old 0
  pub arrivals : new 5 ≡ old 5
  pub kept : new 7 ≡ old 7
  pub queue : new 9 ≡ old 9
  pub journal : new 11 ≡ old 11
  pub targets : new 12 ≡ old 12

-- The data set of that uid is there again. What is known of the items stays, each beside its print,
-- and so do all other tables.
pub record TakesBack (uid : Text) (body : List ℕ) (old new : Trees) : Type 0 where
  pub items : items_of new ≡ items_of old
  pub bodies : bodies_of new ≡ map.insert (bodies_of old) uid body
  pub together : AreTogether old → AreTogether new
  pub site : new 0 ≡ old 0
  pub arrivals : new 5 ≡ old 5
  pub kept : new 7 ≡ old 7
  pub queue : new 9 ≡ old 9
  pub journal : new 11 ≡ old 11
  pub targets : new 12 ≡ old 12

-- ---- a row moves on: a settling, or a requeuing

-- inside a transaction a row moved on, and the line stands in the journal; all other tables are as
-- they were
pub record Moved (at : Pair) (to : Progress) (line : Row) (old new : State) : Type 0 where
  pub goes_on : GoesOn old new
  pub rows : rows_of new.now.trees ≡ map.insert (rows_of old.now.trees) at to
  pub journal : new.now.trees 11 ≡ put_row line (old.now.trees 11)
  pub site : new.now.trees 0 ≡ old.now.trees 0
  pub items : new.now.trees 1 ≡ old.now.trees 1
  pub prints : new.now.trees 3 ≡ old.now.trees 3
  pub arrivals : new.now.trees 5 ≡ old.now.trees 5
  pub kept : new.now.trees 7 ≡ old.now.trees 7
  pub targets : new.now.trees 12 ≡ old.now.trees 12

-- The row moves on, the line stands in the journal, and the data set goes if it is to go. All else
-- stays, and each item beside its print.
pub record MovesOn (at : Pair) (to : Progress) (line : Row) (lets_go : Bool)
    (old new : Trees) : Type 0 where
  pub rows : rows_of new ≡ map.insert (rows_of old) at to
  pub journal : new 11 ≡ put_row line (old 11)
  pub items : items_of new ≡ items_of old
  pub bodies : bodies_of new ≡ cond lets_go (map.remove (bodies_of old) at.0) (bodies_of old)
  pub together : AreTogether old → AreTogether new
  pub site : new 0 ≡ old 0
  pub arrivals : new 5 ≡ old 5
  pub kept : new 7 ≡ old 7
  pub targets : new 12 ≡ old 12

-- what it asks: the row is there, and its item
abbrev pub AsksForRow : Pair → Trees → Type 0
AsksForRow at db = HasRow at db × HasBoth at.0 db

-- ---- a row is dropped

-- inside a transaction a row was dropped, the line stands in the journal, and the arrivals of the
-- instance have left, whoever brought it; all other tables are as they were
pub record GivenUp (uid dest : Text) (now n : ℕ) (old new : State) : Type 0 where
  pub goes_on : GoesOn old new
  pub rows : rows_of new.now.trees ≡ map.insert (rows_of old.now.trees) (uid, dest) Dropped
  pub journal : new.now.trees 11 ≡ put_row (dropped_line n uid dest now) (old.now.trees 11)
  pub arrivals : new.now.trees 5 ≡ filter (is_of_other 2 uid) (old.now.trees 5)
  pub site : new.now.trees 0 ≡ old.now.trees 0
  pub items : new.now.trees 1 ≡ old.now.trees 1
  pub prints : new.now.trees 3 ≡ old.now.trees 3
  pub kept : new.now.trees 7 ≡ old.now.trees 7
  pub targets : new.now.trees 12 ≡ old.now.trees 12

-- A dropping with line n, at a moment: the row is dropped, the arrivals of the instance have left,
-- whoever brought it, the line stands in the journal, and the data set goes if it is to go. All
-- else stays, and each item beside its print.
pub record GivesUp (uid dest : Text) (now n : ℕ) (lets_go : Bool) (old new : Trees) : Type 0 where
  pub rows : rows_of new ≡ map.insert (rows_of old) (uid, dest) Dropped
  pub arrivals : new 5 ≡ filter (is_of_other 2 uid) (old 5)
  pub journal : new 11 ≡ put_row (dropped_line n uid dest now) (old 11)
  pub items : items_of new ≡ items_of old
  pub bodies : bodies_of new ≡ cond lets_go (map.remove (bodies_of old) uid) (bodies_of old)
  pub together : AreTogether old → AreTogether new
  pub site : new 0 ≡ old 0
  pub kept : new 7 ≡ old 7
  pub targets : new 12 ≡ old 12

-- ---- an arrival

-- a line more, and nothing else
pub record AddsOnlyLine (line : Row) (old new : Trees) : Type 0 where
  pub journal : new 11 ≡ put_row line (old 11)
  pub site : new 0 ≡ old 0
  pub items : new 1 ≡ old 1
  pub prints : new 3 ≡ old 3
  pub arrivals : new 5 ≡ old 5
  pub kept : new 7 ≡ old 7
  pub queue : new 9 ≡ old 9
  pub targets : new 12 ≡ old 12

-- neither the item nor its print is there
abbrev pub HasNeither : Text → Trees → Type 0
HasNeither uid db =
    (map.get (contents_in (db 1)) uid ≡ None) × (map.get (wholes_in (db 3)) uid ≡ None)

-- An instance is there that wasn't, with this data set, which counts as there where `whole`
-- isn't 0. All other tables stay.
pub record Stores (item : Instance) (body : List ℕ) (whole : ℕ) (old new : Trees) : Type 0 where
  pub items : items_of new ≡ map.insert (items_of old) item.uid item
  pub contents : contents_in (new 1) ≡ map.insert (contents_in (old 1)) item.uid body
  pub wholes : wholes_in (new 3) ≡ map.insert (wholes_in (old 3)) item.uid whole
  pub site : new 0 ≡ old 0
  pub arrivals : new 5 ≡ old 5
  pub kept : new 7 ≡ old 7
  pub queue : new 9 ≡ old 9
  pub journal : new 11 ≡ old 11
  pub targets : new 12 ≡ old 12

-- queue has a row for each of the destinations, which waits, untried; those that had one would
-- refuse it. All other tables stay.
pub record AddsRows (uid : Text) (dests : List Text) (old new : Trees) : Type 0 where
  pub rows : rows_of new ≡ with_rows (rows_of old) uid dests
  pub site : new 0 ≡ old 0
  pub items : new 1 ≡ old 1
  pub prints : new 3 ≡ old 3
  pub arrivals : new 5 ≡ old 5
  pub kept : new 7 ≡ old 7
  pub journal : new 11 ≡ old 11
  pub targets : new 12 ≡ old 12

-- queue has a row for each of the destinations
abbrev pub HasRows : Text → List Text → Trees → Type 0
HasRows uid dests db = (dest : Text) → Contains dests dest → HasRow (uid, dest) db

-- the rows where those for these destinations wait, untried
abbrev pub with_waiting : FinMap pair_cmp Progress → Text → List Text → FinMap pair_cmp Progress
with_waiting rows uid [] = rows
with_waiting rows uid (dest ∷ more) =
    with_waiting (map.insert rows (uid, dest) (Waiting 0 0)) uid more

-- queue's rows for these destinations wait anew, untried. All other tables stay.
pub record Renews (uid : Text) (dests : List Text) (old new : Trees) : Type 0 where
  pub rows : rows_of new ≡ with_waiting (rows_of old) uid dests
  pub site : new 0 ≡ old 0
  pub items : new 1 ≡ old 1
  pub prints : new 3 ≡ old 3
  pub arrivals : new 5 ≡ old 5
  pub kept : new 7 ≡ old 7
  pub journal : new 11 ≡ old 11
  pub targets : new 12 ≡ old 12

-- one arrival more is noted. All other tables stay.
pub record NotesArrival (at : Pair) (old new : Trees) : Type 0 where
  pub arrivals : arrivals_in (new 5) ≡ set.insert (arrivals_in (old 5)) at
  pub site : new 0 ≡ old 0
  pub items : new 1 ≡ old 1
  pub prints : new 3 ≡ old 3
  pub kept : new 7 ≡ old 7
  pub queue : new 9 ≡ old 9
  pub journal : new 11 ≡ old 11
  pub targets : new 12 ≡ old 12

-- one instance more is kept. All other tables stay.
pub record KeepsOne (uid : Text) (old new : Trees) : Type 0 where
  pub kept : all_kept_in (new 7) ≡ set.insert (all_kept_in (old 7)) uid
  pub site : new 0 ≡ old 0
  pub items : new 1 ≡ old 1
  pub prints : new 3 ≡ old 3
  pub arrivals : new 5 ≡ old 5
  pub queue : new 9 ≡ old 9
  pub journal : new 11 ≡ old 11
  pub targets : new 12 ≡ old 12

-- the set with all of these
abbrev pub with_names : NameSet → List Text → NameSet
with_names names [] = names
with_names names (name ∷ more) = with_names (map.insert names name tt) more

-- Line n goes on to each of these too, `-` standing for keeping; other lines go on as before. All
-- other tables stay.
pub record AddsTargets (n : ℕ) (names : List Text) (old new : Trees) : Type 0 where
  pub targets : (m : ℕ)
      → names_in (new 12) m
      ≡ cond (n == m) (with_names (names_in (old 12) m) names) (names_in (old 12) m)
  pub site : new 0 ≡ old 0
  pub items : new 1 ≡ old 1
  pub prints : new 3 ≡ old 3
  pub arrivals : new 5 ≡ old 5
  pub kept : new 7 ≡ old 7
  pub queue : new 9 ≡ old 9
  pub journal : new 11 ≡ old 11

-- ---- a forgetting

-- the arrivals and the rows of an instance have left; all other tables stay
pub record DropsMoves (uid : Text) (old new : Trees) : Type 0 where
  pub arrivals : new 5 ≡ filter (is_of_other 2 uid) (old 5)
  pub rows : new 9 ≡ filter (is_of_other 1 uid) (old 9)
  pub site : new 0 ≡ old 0
  pub items : new 1 ≡ old 1
  pub prints : new 3 ≡ old 3
  pub kept : new 7 ≡ old 7
  pub journal : new 11 ≡ old 11
  pub targets : new 12 ≡ old 12

-- the item and its print have left; all other tables stay
pub record DropsStock (uid : Text) (old new : Trees) : Type 0 where
  pub items : new 1 ≡ filter (is_of_other 1 uid) (old 1)
  pub prints : new 3 ≡ filter (is_of_other 1 uid) (old 3)
  pub site : new 0 ≡ old 0
  pub arrivals : new 5 ≡ old 5
  pub kept : new 7 ≡ old 7
  pub queue : new 9 ≡ old 9
  pub journal : new 11 ≡ old 11
  pub targets : new 12 ≡ old 12

-- A forgetting with line n, at that moment: the item has left, its print, its arrivals, whoever
-- brought it, and its rows, to whatever destination; and the line stands in the journal. All else
-- stays.
pub record TakesOut (uid : Text) (n : ℕ) (moment : Option ℕ) (old new : Trees) : Type 0 where
  pub items : new 1 ≡ filter (is_of_other 1 uid) (old 1)
  pub prints : new 3 ≡ filter (is_of_other 1 uid) (old 3)
  pub arrivals : new 5 ≡ filter (is_of_other 2 uid) (old 5)
  pub rows : new 9 ≡ filter (is_of_other 1 uid) (old 9)
  pub journal : new 11 ≡ put_row (forgotten_line n moment uid) (old 11)
  pub site : new 0 ≡ old 0
  pub kept : new 7 ≡ old 7
  pub targets : new 12 ≡ old 12
