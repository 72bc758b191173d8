-- First arrivals: what each makes of the tables.
use Rattle.std.specs.Prelude.{◌≡◌, ◌≤◌, ◌==◌, ◌↔◌, ℕ, Bool, cond, not, List, ◌∷◌}
use Rattle.std.specs.Prelude.{Contains, filter, true, false, Option, None, Some}
use Rattle.std.specs.FinMap as map
use Rattle.std.specs.FinMap.{FinMap}
use Rattle.std.specs.FinSet as set
use Rattle.sqlite.specs.Tree.{Trees, put_row}
use Rattle.dr_base.specs.Texts.{IsInByteOrder, Text, text_cmp}
use Rattle.dr_route.specs.Routes.{local}
use Rattle.dr_ledger.specs.declared.item.Instance.{Instance}
use Rattle.dr_ledger.specs.declared.item.Progress.{Progress}
use Rattle.dr_ledger.specs.declared.item.Progress.TheVariants.{Waiting, Held, Done, Dropped}
use Rattle.dr_ledger.specs.Bodies.{Bodies, IsNeeded}
use Rattle.dr_ledger.specs.Books.{Book, with_rows}
use Rattle.dr_ledger.specs.Pairs.{pair_cmp}
use Rattle.dr_store_schema.specs.Books.{all_kept_in, arrivals_in, bodies_of, items_of}
use Rattle.dr_store_schema.specs.Books.{names_in, rows_of}
use Rattle.dr_store_writes.specs.Effects.{arrived_line}
use Rattle.dr_store_changes.specs.declared.first.Taking.{Taking}
use Rattle.dr_store_changes.specs.declared.first.Taking.TheVariants as taking
use Rattle.dr_store_changes.specs.Changes.{AreTogether, HasBoth, HasNeither, with_names}
use Rattle.dr_store_changes.specs.Changes.{with_waiting}

-- one change of the tables, and then another
abbrev pub Then : (Trees → Trees → Type 0) → (Trees → Trees → Type 0) → Trees → Trees → Type 0
Then One Other old new = (mid : Trees) × One old mid × Other mid new

-- ---- the item and its data set

-- what is asked: that neither the item nor its print is there, or that both are
abbrev pub AsksToTake : Taking → Text → Trees → Type 0
AsksToTake taking.New uid db = HasNeither uid db
AsksToTake taking.Bare uid db = HasNeither uid db
AsksToTake taking.Again uid db = HasBoth uid db
AsksToTake taking.Nothing uid db = Unit {0}

-- the items with this one, if it is new
abbrev pub items_taken : Taking → FinMap text_cmp Instance → Instance → FinMap text_cmp Instance
items_taken taking.New items item = map.insert items item.uid item
items_taken taking.Bare items item = map.insert items item.uid item
items_taken taking.Again items item = items
items_taken taking.Nothing items item = items

-- the data sets with this one, if it comes
abbrev pub bodies_taken : Taking → Bodies → Text → List ℕ → Bodies
bodies_taken taking.New bodies uid body = map.insert bodies uid body
bodies_taken taking.Bare bodies uid body = bodies
bodies_taken taking.Again bodies uid body = map.insert bodies uid body
bodies_taken taking.Nothing bodies uid body = bodies

-- The item is there, beside its print, and its data set if it comes. All other tables stay.
pub record TakesInItem (how : Taking) (item : Instance) (body : List ℕ)
    (old new : Trees) : Type 0 where
  pub items : items_of new ≡ items_taken how (items_of old) item
  pub bodies : bodies_of new ≡ bodies_taken how (bodies_of old) item.uid body
  pub together : AreTogether old → AreTogether new
  pub site : new 0 ≡ old 0
  pub arrivals : new 5 ≡ old 5
  pub kept : new 7 ≡ old 7
  pub queue : new 9 ≡ old 9
  pub journal : new 11 ≡ old 11
  pub targets : new 12 ≡ old 12

-- The instance is kept, if it is to be. All other tables stay.
pub record KeepsIf (uid : Text) (keeps : Bool) (old new : Trees) : Type 0 where
  pub kept : all_kept_in (new 7)
      ≡ cond keeps (set.insert (all_kept_in (old 7)) uid) (all_kept_in (old 7))
  pub site : new 0 ≡ old 0
  pub items : new 1 ≡ old 1
  pub prints : new 3 ≡ old 3
  pub arrivals : new 5 ≡ old 5
  pub queue : new 9 ≡ old 9
  pub journal : new 11 ≡ old 11
  pub targets : new 12 ≡ old 12

-- ---- all of it

-- A first arrival with line n, at that moment: the item is there, beside its print, and its data
-- set if it comes; the caller has brought it; it waits anew for each destination of `again`, and
-- from now on for each of `dests`; it is kept if it is to be; and the line goes on to these names,
-- `-` standing for keeping.
pub record Brings (how : Taking) (caller : Text) (item : Instance) (body : List ℕ)
    (again dests : List Text) (keeps : Bool) (names : List Text) (n : ℕ) (moment : Option ℕ)
    (old new : Trees) : Type 0 where
  pub items : items_of new ≡ items_taken how (items_of old) item
  pub bodies : bodies_of new ≡ bodies_taken how (bodies_of old) item.uid body
  pub together : AreTogether old → AreTogether new
  pub arrivals : arrivals_in (new 5) ≡ set.insert (arrivals_in (old 5)) (caller, item.uid)
  pub rows : rows_of new
      ≡ with_rows (with_waiting (rows_of old) item.uid again) item.uid dests
  pub kept : all_kept_in (new 7)
      ≡ cond keeps (set.insert (all_kept_in (old 7)) item.uid) (all_kept_in (old 7))
  pub journal : new 11 ≡ put_row (arrived_line n moment 0 caller item) (old 11)
  pub targets : (m : ℕ)
      → names_in (new 12) m
      ≡ cond (n == m) (with_names (names_in (old 12) m) names) (names_in (old 12) m)
  pub site : new 0 ≡ old 0

-- ---- what the routes say of it

-- of these destinations those to which the instance has no row
abbrev pub missing : FinMap pair_cmp Progress → Text → List Text → List Text
missing rows uid to = filter (λ dest. not (map.contains_key rows (uid, dest))) to

-- a row is there, and was dropped
abbrev pub is_dropped : Option Progress → Bool
is_dropped (Some Dropped) = true
is_dropped (Some Done) = false
is_dropped (Some (Held why)) = false
is_dropped (Some (Waiting tries due)) = false
is_dropped None = false

-- of these destinations those for which the instance's row was dropped
abbrev pub given_up : FinMap pair_cmp Progress → Text → List Text → List Text
given_up rows uid to = filter (λ dest. is_dropped (map.get rows (uid, dest))) to

-- where the line goes on to, with `-` where the instance is kept
abbrev pub names_for : Bool → List Text → List Text
names_for keep to = cond keep (local ∷ to) to

-- these are names of nodes in byte order, each once; `-` is none
abbrev pub AreTargets : List Text → Type 0
AreTargets to = IsInByteOrder to × (Contains to local → ⊥)

-- what stands at the uid of an item that is taken so
abbrev pub IsKnownFor : Taking → Instance → Option Instance → Type 0
IsKnownFor taking.New item found = found ≡ None
IsKnownFor taking.Bare item found = found ≡ None
IsKnownFor taking.Again item found = found ≡ Some item
IsKnownFor taking.Nothing item found = found ≡ Some item

-- ---- what is needed

-- A cell is there exactly where the book needs a data set.
pub record HasCells (b : Book) (cells : Bodies) : Type 0 where
  pub there : (uid : Text) → ((cell : List ℕ) × (map.get cells uid ≡ Some cell)) ↔ IsNeeded b uid

-- ---- lines that are still to come

-- no line from this number on goes anywhere
abbrev pub GoNowhere : ℕ → Trees → Type 0
GoNowhere n db = (m : ℕ) → n ≤ m → names_in (db 12) m ≡ map.empty
