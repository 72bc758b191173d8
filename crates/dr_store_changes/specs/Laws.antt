-- Laws of the calls that write: what they make of the tables is what the ledger's call makes of the
-- book.
use Rattle.std.specs.Prelude.{◌≡◌, ◌+◌, ◌&&◌, ℕ, Bool, true, false, not, List, Option}
use Rattle.std.specs.Prelude.{Some}
use Rattle.std.specs.FinMap as map
use Rattle.std.specs.FinSet as set
use Rattle.sqlite.specs.Order.{Row}
use Rattle.sqlite.specs.Tree.{Trees}
use Rattle.dr_base.specs.Texts.{Text}
use Rattle.dr_ledger.specs.declared.item.Cause.{Cause}
use Rattle.dr_ledger.specs.declared.item.Instance.{Instance}
use Rattle.dr_ledger.specs.declared.item.Outcome.{Outcome}
use Rattle.dr_ledger.specs.declared.item.Progress.{Progress}
use Rattle.dr_ledger.specs.declared.item.Progress.TheVariants.{Waiting, Held}
use Rattle.dr_ledger.specs.Bodies.{Bodies, IsNeeded}
use Rattle.dr_ledger.specs.Books.{Book, Arrival, Repeat, Settling, Requeuing, Dropping, Forgetting}
use Rattle.dr_ledger.specs.Books.{after, row_after}
use Rattle.dr_ledger.specs.Replies.{IsOver}
use Rattle.dr_store_schema.specs.Books.{AreBelow, all_kept_in, bodies_of, book_of, items_of}
use Rattle.dr_store_schema.specs.Books.{rows_of}
use Rattle.dr_store_writes.specs.Effects.{arrived_line, requeued_line, settled_line}
use Rattle.dr_store_changes.specs.declared.first.Taking.{Taking}
use Rattle.dr_store_changes.specs.declared.first.Taking.TheVariants as taking
use Rattle.dr_store_changes.specs.Bringing.{AreTargets, Brings, GoNowhere, HasCells, IsKnownFor}
use Rattle.dr_store_changes.specs.Bringing.{bodies_taken, given_up, missing, names_for}
use Rattle.dr_store_changes.specs.Changes.{AddsOnlyLine, AreTogether, GivesUp, MovesOn, TakesOut}
use Rattle.dr_store_changes.specs.Writing.{AddsLine, AreNumberedTo}

-- Where a row waits, to move it on by an outcome with the line of its settling is to settle it.
abbrev pub SettlingsSettle : Type 0
SettlingsSettle =
    (old new : Trees) (n : ℕ) (uid dest : Text) (tries due : ℕ) (what : Outcome) (now : ℕ)
    (lets_go : Bool)
    → AreBelow n (old 11)
    → map.get (rows_of old) (uid, dest) ≡ Some (Waiting tries due)
    → MovesOn (uid, dest) (row_after tries what now) (settled_line n uid dest what now) lets_go old
    new
    → book_of new ≡ after (Settling uid dest what now) (book_of old)

-- Where a row is held, to let it wait again with the line of its requeuing is to queue it again.
abbrev pub RequeuingsRequeue : Type 0
RequeuingsRequeue =
    (old new : Trees) (n : ℕ) (moment : Option ℕ) (uid dest : Text) (why : Cause)
    (lets_go : Bool)
    → AreBelow n (old 11)
    → map.get (rows_of old) (uid, dest) ≡ Some (Held why)
    → MovesOn (uid, dest) (Waiting 0 0) (requeued_line n moment uid dest) lets_go old new
    → book_of new ≡ after (Requeuing uid dest) (book_of old)

-- Where a row is held, to drop it and the arrivals of its instance, with the line of its dropping,
-- is to drop it.
abbrev pub DroppingsDrop : Type 0
DroppingsDrop =
    (old new : Trees) (n : ℕ) (uid dest : Text) (why : Cause) (now : ℕ) (lets_go : Bool)
    → AreBelow n (old 11)
    → map.get (rows_of old) (uid, dest) ≡ Some (Held why)
    → GivesUp uid dest now n lets_go old new
    → book_of new ≡ after (Dropping uid dest now) (book_of old)

-- the data set goes just where the book that is made needs it no more
abbrev pub GoesWhereNeededNoMore : Bool → Trees → Text → Type 0
GoesWhereNeededNoMore true new uid = IsNeeded (book_of new) uid → ⊥
GoesWhereNeededNoMore false new uid = IsNeeded (book_of new) uid

-- A row that waited or was held moves on. Where its cell goes just if it is needed no more, the
-- cells that are there are those that are needed.
abbrev pub WhatIsNeededStays : Type 0
WhatIsNeededStays =
    (old new : Trees) (uid dest : Text) (was to : Progress) (line : Row) (lets_go : Bool)
    → HasCells (book_of old) (bodies_of old)
    → IsNeeded (book_of old) uid
    → MovesOn (uid, dest) to line lets_go old new
    → GoesWhereNeededNoMore lets_go new uid
    → HasCells (book_of new) (bodies_of new)

-- The same of a row that is dropped.
abbrev pub WhatIsNeededStaysAtADropping : Type 0
WhatIsNeededStaysAtADropping =
    (old new : Trees) (n : ℕ) (uid dest : Text) (now : ℕ) (lets_go : Bool)
    → HasCells (book_of old) (bodies_of old)
    → IsNeeded (book_of old) uid
    → GivesUp uid dest now n lets_go old new
    → GoesWhereNeededNoMore lets_go new uid
    → HasCells (book_of new) (bodies_of new)

-- The line of a repeat, with what came, is all that a repeat adds to the book.
abbrev pub RepeatsRepeat : Type 0
RepeatsRepeat =
    (old new : Trees) (n : ℕ) (moment : Option ℕ) (caller : Text) (item : Instance)
    → AreBelow n (old 11)
    → AddsOnlyLine (arrived_line n moment 1 caller item) old new
    → (book_of new ≡ after (Repeat caller item) (book_of old)) × (bodies_of new ≡ bodies_of old)

-- An instance that comes from a caller for the first time, with rows for those of its destinations
-- that have none, and with those that were dropped waiting anew, kept if it is to be and isn't, and
-- with the line and its names: that is its arrival.
abbrev pub ArrivalsArrive : Type 0
ArrivalsArrive =
    (how : Taking) (old new : Trees) (n : ℕ) (moment : Option ℕ) (caller : Text)
    (item : Instance) (body : List ℕ) (to : List Text) (keep : Bool)
    → AreBelow n (old 11) → GoNowhere n old
    → IsKnownFor how item (map.get (items_of old) item.uid)
    → AreTargets to
    → Brings how caller item body (given_up (rows_of old) item.uid to)
    (missing (rows_of old) item.uid to)
    (keep && not (set.contains (all_kept_in (old 7)) item.uid)) (names_for keep to) n moment
    old new
    → book_of new ≡ after (Arrival caller item to keep) (book_of old)

-- the data set comes just where the book that is made needs it and it isn't there
abbrev pub ComesWhereNeeded : Taking → Book → Bodies → Text → Type 0
ComesWhereNeeded taking.New made bodies uid = IsNeeded made uid
ComesWhereNeeded taking.Bare made bodies uid = IsNeeded made uid → ⊥
ComesWhereNeeded taking.Again made bodies uid = IsNeeded made uid
ComesWhereNeeded taking.Nothing made bodies uid =
    IsNeeded made uid → (body : List ℕ) × (map.get bodies uid ≡ Some body)

-- Where the cell of what arrives comes just if it is needed, the cells that are there are those
-- that are needed.
abbrev pub DataSetsCome : Type 0
DataSetsCome =
    (how : Taking) (b : Book) (caller : Text) (item : Instance) (cell : List ℕ) (to : List Text)
    (keep : Bool) (cells : Bodies)
    → HasCells b cells
    → ComesWhereNeeded how (after (Arrival caller item to keep) b) cells item.uid
    → HasCells (after (Arrival caller item to keep) b) (bodies_taken how cells item.uid cell)

-- Where what is of an instance leaves, with the line of its forgetting, the instance is forgotten.
abbrev pub ForgettingsForget : Type 0
ForgettingsForget =
    (old new : Trees) (n : ℕ) (moment : Option ℕ) (uid : Text)
    → AreBelow n (old 11)
    → TakesOut uid n moment old new
    → book_of new ≡ after (Forgetting uid) (book_of old)

-- What leaves item leaves print.
abbrev pub ForgettingsTakeBoth : Type 0
ForgettingsTakeBoth =
    (old new : Trees) (n : ℕ) (moment : Option ℕ) (uid : Text)
    → TakesOut uid n moment old new
    → AreTogether old → AreTogether new

-- Where the lines' numbers count up from the first to the one before n, so they do with line n.
abbrev pub LinesCountUp : Type 0
LinesCountUp =
    (old new : Trees) (first n : ℕ)
    → AddsLine n old new
    → AreNumberedTo first n (old 11) → AreNumberedTo first (n + 1) (new 11)

-- An instance that is over has no data set, so the data sets stay as they were.
abbrev pub ForgettingsLetNoDataSetGo : Type 0
ForgettingsLetNoDataSetGo =
    (old new : Trees) (n : ℕ) (moment : Option ℕ) (uid : Text)
    → HasCells (book_of old) (bodies_of old)
    → IsOver (book_of old) uid
    → TakesOut uid n moment old new
    → bodies_of new ≡ bodies_of old
