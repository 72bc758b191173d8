-- What is asked of a book without a list of all that it has: how many rows of a destination are at
-- a stage, since when the first of them is due, its rows in pages, and who brought an instance. All
-- but the last is said of the rows as the book lists them, by (uid, destination).
use Rattle.std.specs.Prelude.{Bool, true, ◌≡◌, ◌≤◌, ◌==◌, ◌&&◌, ◌↔◌, ℕ, List, [], ◌∷◌, All}
use Rattle.std.specs.Prelude.{Contains, cond, filter, filter_map, flat_map, length, take, Option}
use Rattle.std.specs.Prelude.{None, Some}
use Rattle.std.specs.FinSet as set
use Rattle.std.specs.FinSet.{FinSet}
use Rattle.std.specs.List.Sorted.{IsStrictlySortedBy}
use Rattle.std.specs.Ordering.{is_lt}
use Rattle.std.specs.Str.{bytes_eq}
use Rattle.dr_base.specs.Texts.{Text, text_cmp}
use Rattle.dr_ledger.specs.Books.{Row}
use Rattle.dr_ledger.specs.Pairs.{Pair, pair_cmp}
use Rattle.dr_ledger.specs.declared.item.Progress.{Progress}
use Rattle.dr_ledger.specs.declared.item.Progress.TheVariants as progress
use Rattle.dr_ledger_views.specs.declared.stage.Stage.{Stage}
use Rattle.dr_ledger_views.specs.declared.stage.Stage.TheVariants as stage
use Rattle.dr_ledger_views.specs.declared.stage.HopTally.{HopTally}

-- ---- stages

abbrev pub stage_of : Progress → Stage
stage_of (progress.Waiting tries due) = stage.Waiting
stage_of (progress.Held why) = stage.Held
stage_of progress.Done = stage.Done
stage_of progress.Dropped = stage.Dropped

-- a number for each stage, by which they are told apart
abbrev pub number_of : Stage → ℕ
number_of stage.Waiting = 0
number_of stage.Held = 1
number_of stage.Done = 2
number_of stage.Dropped = 3

-- the row is at the stage that is named, if one is
abbrev pub is_at : Option Stage → Progress → Bool
is_at None row = true
is_at (Some named) row = number_of named == number_of (stage_of row)

-- the row goes to that destination, and is at that stage, if one is named
abbrev pub is_to : Text → Option Stage → Row → Bool
is_to dest named row = bytes_eq row.0.1 dest && is_at named row.1

-- how many of the rows go there and are at that stage
abbrev pub how_many : List Row → Text → Option Stage → ℕ
how_many rows dest named = length (filter (is_to dest named) rows)

-- ---- pages

-- the row's uid comes behind this one, in byte order
abbrev pub is_behind : Text → Row → Bool
is_behind after row = is_lt (text_cmp after row.0.0)

abbrev pub is_wanted : Text → Option Stage → Text → Row → Bool
is_wanted dest named after row = is_to dest named row && is_behind after row

-- those of the rows that go there, are at that stage, and come behind that uid
abbrev pub all_behind : List Row → Text → Option Stage → Text → List Row
all_behind rows dest named after = filter (is_wanted dest named after) rows

-- the first of them, as many as a page has
abbrev pub page_of : List Row → Text → Option Stage → Text → ℕ → List Row
page_of rows dest named after limit = take limit (all_behind rows dest named after)

-- the rows of an instance
abbrev pub is_of : Text → Row → Bool
is_of uid row = bytes_eq row.0.0 uid

abbrev pub rows_of : List Row → Text → List Row
rows_of rows uid = filter (is_of uid) rows

-- ---- moments

-- the moment from which on a row that waits is due
abbrev pub due_of : Progress → Option ℕ
due_of (progress.Waiting tries due) = Some due
due_of (progress.Held why) = None
due_of progress.Done = None
due_of progress.Dropped = None

-- the same, where the row goes to that destination
abbrev pub due_for : Text → Row → Option ℕ
due_for dest row = cond (bytes_eq row.0.1 dest) (due_of row.1) None

-- the moments from which on the rows that wait for the destination are due
abbrev pub dues : List Row → Text → List ℕ
dues rows dest = filter_map (due_for dest) rows

-- the least of the moments, and none where there is no moment
abbrev pub IsLeast : List ℕ → Option ℕ → Type 0
IsLeast moments None = moments ≡ []
IsLeast moments (Some least) = Contains moments least × All (λ moment. least ≤ moment) moments

-- ---- callers

-- who brought an instance: the callers of its arrivals, in byte order, each once and no other
pub record AreCallers (arrivals : FinSet pair_cmp) (uid : Text) (callers : List Text) : Type 0 where
  pub ordered : IsStrictlySortedBy text_cmp callers
  pub each : (caller : Text)
      → Contains callers caller ↔ (set.contains arrivals (caller, uid) ≡ true)

-- the same of the arrivals in a list: the caller of one, where it is of that instance
abbrev pub caller_if : Text → Pair → List Text
caller_if uid arrival = cond (bytes_eq arrival.1 uid) (arrival.0 ∷ []) []

abbrev pub callers_among : List Pair → Text → List Text
callers_among arrivals uid = flat_map (caller_if uid) arrivals

-- ---- all of it, of one destination

pub record IsTally (rows : List Row) (dest : Text) (tally : HopTally) : Type 0 where
  pub waiting : tally.waiting ≡ how_many rows dest (Some stage.Waiting)
  pub held : tally.held ≡ how_many rows dest (Some stage.Held)
  pub done : tally.done ≡ how_many rows dest (Some stage.Done)
  pub dropped : tally.dropped ≡ how_many rows dest (Some stage.Dropped)
  pub due : IsLeast (dues rows dest) tally.due
