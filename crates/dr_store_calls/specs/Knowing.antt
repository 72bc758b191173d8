-- What the tables have of what arrives.
use Rattle.std.specs.Prelude.{◌≡◌, ◌&&◌, ◌||◌, Bool, cond, filter, is_some, not, true, false, List}
use Rattle.std.specs.Prelude.{Option, Some, Ok}
use Rattle.std.specs.FinMap as map
use Rattle.std.specs.FinMap.{FinMap}
use Rattle.std.specs.FinSet as set
use Rattle.sqlite.specs.Tree.{Trees}
use Rattle.dr_base.specs.Texts.{Text}
use Rattle.dr_site.specs.Parts.{Part}
use Rattle.dr_ledger.specs.declared.item.Arrived.{Arrived}
use Rattle.dr_ledger.specs.declared.item.Instance.{Instance}
use Rattle.dr_ledger.specs.declared.item.Progress.{Progress}
use Rattle.dr_ledger.specs.Books.{Arrival, Book, after}
use Rattle.dr_ledger.specs.Pairs.{pair_cmp}
use Rattle.dr_ledger.specs.Replies.{Arrives, HasConflict}
use Rattle.dr_ledger.specs.SiteRoutes.{site_routing}
use Rattle.dr_store_schema.specs.Books.{all_kept_in, arrivals_in, bodies_of, book_of, items_of}
use Rattle.dr_store_schema.specs.Books.{rows_of}
use Rattle.dr_store_changes.specs.declared.first.Taking.{Taking}
use Rattle.dr_store_changes.specs.declared.first.Taking.TheVariants.{New, Bare, Again, Nothing}
use Rattle.dr_store_changes.specs.Bringing.{AsksToTake, IsKnownFor, given_up, is_dropped, missing}
use Rattle.dr_store_changes.specs.Changes.{HasBoth, HasNeither}
use Rattle.dr_store_changes.specs.Laws.{ComesWhereNeeded}
use Rattle.dr_store_calls.specs.declared.knowing.Known.{Known}
use Rattle.dr_store_calls.specs.declared.knowing.Known.TheVariants as known

-- the item is there, with its print; whether its data set is there, too
pub record IsThere (db : Trees) (item : Instance) (whole : Bool) : Type 0 where
  pub same : map.get (items_of db) item.uid ≡ Some item
  pub both : HasBoth item.uid db
  pub body : map.contains_key (bodies_of db) item.uid ≡ whole

-- what the tables have of the item's uid: nothing, another instance, or this one
abbrev pub IsWhatIsKnown : Trees → Instance → Known → Type 0
IsWhatIsKnown db item known.No = HasNeither item.uid db
IsWhatIsKnown db item known.Other = HasConflict (book_of db) item
IsWhatIsKnown db item (known.Same whole) = IsThere db item whole

-- a destination with this row is one of those that are looked for: those for which the row was
-- dropped, or else those to which there is none
abbrev pub is_chosen : Bool → Option Progress → Bool
is_chosen true row = is_dropped row
is_chosen false row = not (is_some row)

-- of these destinations those that are looked for
abbrev pub chosen : Bool → FinMap pair_cmp Progress → Text → List Text → List Text
chosen dropped rows uid to = filter (λ dest. is_chosen dropped (map.get rows (uid, dest))) to

-- A first arrival, of an instance that is taken so, fits the tables: `again` are the destinations
-- for which its row was dropped, `dests` those to which it has none, and it is to be kept from now
-- on just if it wasn't.
pub record FitsTables (how : Taking) (caller : Text) (item : Instance) (to : List Text)
    (keep : Bool) (again dests : List Text) (keeps : Bool) (db : Trees) : Type 0 where
  pub asks : AsksToTake how item.uid db
  pub known : IsKnownFor how item (map.get (items_of db) item.uid)
  pub comes : ComesWhereNeeded how (after (Arrival caller item to keep) (book_of db))
      (bodies_of db) item.uid
  pub again_are : again ≡ given_up (rows_of db) item.uid to
  pub missing_are : dests ≡ missing (rows_of db) item.uid to
  pub keeps_is : keeps ≡ (keep && not (set.contains (all_kept_in (db 7)) item.uid))
  pub first : set.contains (arrivals_in (db 5)) (caller, item.uid) ≡ false

-- the book is that after an arrival that was accepted
abbrev pub IsAccepted : Part → Text → Instance → Book → Book → Type 0
IsAccepted part caller item old new =
    (answer : Arrived) × Arrives (site_routing part) caller item old (Ok answer) new

-- how an instance is taken in that is there: its data set comes again where it isn't there, and the
-- instance is to be kept, lacks a row or has one that was dropped
abbrev pub taking_there : Bool → Bool → Bool → Taking
taking_there whole keep none = cond (whole || (not keep && none)) Nothing Again

-- how one is taken in that isn't there: with its data set, where it is to be kept or has a
-- destination
abbrev pub taking_absent : Bool → Bool → Taking
taking_absent keep none = cond (not keep && none) Bare New
