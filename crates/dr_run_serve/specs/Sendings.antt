-- What one who sends asks of the desk at a visit, what is noted of it, and what follows.
use Rattle.std.specs.Prelude.{◌≡◌, ◌⊎◌, ◌↔◌, ◌+◌, ◌-◌, ◌||◌, ◌∷◌, ◌++◌, [], ℕ, Bool, true, false}
use Rattle.std.specs.Prelude.{IsTrue, List, Option, None, Some, Result, Ok, Err, cond}
use Rattle.std.specs.FinMap as map
use Rattle.std.specs.declared.io.Error.{Error}
use Rattle.dr_base.specs.Texts.{Text}
use Rattle.dr_desk.specs.Answering.{Answers}
use Rattle.dr_desk.specs.Reading.{Reading}
use Rattle.dr_desk.specs.declared.receipt.Call.TheVariants as call
use Rattle.dr_desk.specs.declared.receipt.Receipt.{Receipt}
use Rattle.dr_desk.specs.declared.receipt.Reply.TheVariants.{Done as Accepted}
use Rattle.dr_ledger.specs.Bodies.{Bodies, NextsWith}
use Rattle.dr_ledger.specs.Books.{Book, Line, is_success}
use Rattle.dr_ledger.specs.Replies.{Dues, Reads, Settles}
use Rattle.dr_ledger.specs.declared.content.NextRow.{NextRow}
use Rattle.dr_ledger.specs.declared.fault.LedgerFault.{LedgerFault}
use Rattle.dr_ledger.specs.declared.fault.LedgerFault.TheVariants as fault
use Rattle.dr_ledger.specs.declared.item.Cause.TheVariants as cause
use Rattle.dr_ledger.specs.declared.item.Outcome.{Outcome}
use Rattle.dr_ledger.specs.declared.item.Outcome.TheVariants.{Status, Broken, NoContext, Unreadable}
use Rattle.dr_ledger.specs.declared.item.Progress.{Progress}
use Rattle.dr_ledger.specs.declared.item.Progress.TheVariants.{Held, Done}
use Rattle.dr_ledger_views.specs.Views.{IsLeast, dues}
use Rattle.dr_session.specs.Desks.{DeskCall, DeskAnswer, Arrive, Next, Settle, Arrival, Upcoming}
use Rattle.dr_session.specs.Desks.{Settling, Due, First}
use Rattle.dr_session.specs.declared.ends.Heard.{Heard}
use Rattle.dr_site.specs.Parts.{Part}
use Rattle.dr_run_serve.specs.Dues.{due_of}
use Rattle.dr_run_serve.specs.Ends.{end_of}
use Rattle.dr_run_serve.specs.Rests.{IsRestAfter, IsVisited}
use Rattle.dr_run_serve.specs.Visits.{Visits}
use Rattle.dr_run_serve.specs.declared.ends.VisitEnd.{VisitEnd}
use Rattle.dr_run_serve.specs.declared.ends.VisitEnd.TheVariants.{Ledger}
use Rattle.dr_run_serve.specs.declared.rest.Rest.{Rest}
use Rattle.dr_run_serve.specs.declared.resting.Noted.{Noted}
use Rattle.dr_run_serve.specs.declared.signal.WakeUp.{WakeUp}
use Rattle.dr_run_serve.specs.declared.visit.Visit.{Visit}

-- ---- a row behind an outcome

-- how far a row is, where its outcome alone says it
abbrev pub known_of : Outcome → Option Progress
known_of (Status status) = cond (is_success status) (Some Done) None
known_of Broken = None
known_of NoContext = None
known_of Unreadable = Some (Held cause.Unreadable)

abbrev pub is_unreadable : Outcome → Bool
is_unreadable (Status status) = false
is_unreadable Broken = false
is_unreadable NoContext = false
is_unreadable Unreadable = true

-- how far a row is, as far as the desk could tell
abbrev pub as_told : Result (Option Progress) LedgerFault → Option Progress
as_told (Ok came) = came
as_told (Err why) = None

-- ---- a fault of a visit

-- what it is told as, where that was answered to a call that only reads: as a store that failed,
-- where that answer is so
abbrev pub told_as : Result Bool LedgerFault → LedgerFault → LedgerFault
told_as (Err fault.Store) came = fault.Store
told_as found came = came

-- ---- calls

-- a call of the desk, with what it was answered
abbrev pub AnsweredCall : Type 0
AnsweredCall = DeskCall × DeskAnswer

-- the ledger accepted it
abbrev pub is_accepted : DeskAnswer → Bool
is_accepted (Arrival (Ok arrived)) = true
is_accepted (Arrival (Err why)) = false
is_accepted (Settling (Ok done)) = true
is_accepted (Settling (Err why)) = false
is_accepted (Upcoming due) = false
is_accepted (First found) = false

-- a row was passed over by it: the ledger accepted that its data set can't be read
abbrev pub passes_over : DeskCall → DeskAnswer → Bool
passes_over (Settle uid dest outcome now) (Settling (Ok done)) = is_unreadable outcome
passes_over asked answer = false

-- how many of these calls the ledger accepted
abbrev pub accepted : List AnsweredCall → ℕ
accepted [] = 0
accepted (one ∷ before) = cond (is_accepted one.1) (accepted before + 1) (accepted before)

-- a row was passed over by one of them
abbrev pub passes : List AnsweredCall → Bool
passes [] = false
passes (one ∷ before) = passes_over one.0 one.1 || passes before

-- that is noted of a visit at which these calls were made
abbrev pub IsNotedOf : List AnsweredCall → Noted → Type 0
IsNotedOf calls noted = (noted.settled ≡ accepted calls) × (noted.passed ≡ passes calls)

-- A visit at a port that counts what it took, and keeps whether a row was passed over: it came to
-- that, and that was noted. Nothing was passed over before.
pub record VisitsAt {K S : Type 0} (connects : Text → Result K Error → Type 0)
    (hears : K → Heard → K → Type 0)
    (sends : K → List ℕ → Bool → K → Type 0) (closes : K → K → Type 0)
    (step : S → DeskCall → DeskAnswer → S → Type 0)
    (finds : S → Text → ℕ → Result (Option Text) LedgerFault → S → Type 0)
    (tells : ℕ → Type 0) (site : Part) (count_of : S → ℕ) (receipts_of : S → List Receipt)
    (passed_of : S → Bool) (dest address : Text) (came : Result Visit LedgerFault)
    (noted : Noted) : Type 0 where
  pub port : S
  pub last : S
  pub fresh : passed_of port ≡ false
  pub visits : Visits connects hears sends closes step finds count_of tells site dest address port
      came last
  pub settled : noted.settled ≡ count_of last - count_of port
  pub passed : noted.passed ≡ passed_of last

-- ---- on a desk that threads share

module _ {L : Type 0} (site_of : L → Part) (book : L → Book) (bodies : L → Bodies)
    (stands : L → Type 0) (failed : L → ℕ) (own : Part) (first : List Line) where
  -- How far the row is: what its outcome alone says, or else what the desk answered at some moment
  -- behind it; nothing where it couldn't tell.
  abbrev pub ComesTo : Option Progress → Text → Text → Option Progress → Type 0
  ComesTo (Some known) uid dest came = came ≡ Some known
  ComesTo None uid dest came =
      (found : Result (Option Progress) LedgerFault)
      × Reading site_of book bodies stands failed own first
      (λ l answer. Reads answer (λ row. row ≡ map.get (book l).rows (uid, dest))) found
      × (came ≡ as_told found)

  -- the uid of the first row that is due, as the desk answered at some moment; none where the node
  -- ends
  abbrev pub TellsUid : Text → ℕ → Result (Option Text) LedgerFault → Type 0
  TellsUid dest now found =
      (found ≡ Ok None)
      ⊎ Reading site_of book bodies stands failed own first
      (λ l answer. Reads answer (Dues (book l) dest now)) found

  -- the same, with its data set
  abbrev pub TellsRow : Text → ℕ → Result (Option NextRow) LedgerFault → Type 0
  TellsRow dest now due =
      (due ≡ Ok None)
      ⊎ Reading site_of book bodies stands failed own first
      (λ l answer. Reads answer (NextsWith (book l) (bodies l) dest now)) due

  -- the outcome of the row was noted on the desk, or refused
  abbrev pub Settled : Text → Text → Outcome → ℕ → Result (Unit {0}) LedgerFault → Type 0
  Settled uid dest outcome now answer =
      (receipts kept : List Receipt)
      × Answers site_of book stands failed own first (Settles uid dest outcome now)
      (call.Settling uid dest outcome now) (λ _. Accepted) answer receipts kept

  -- a call of one who sends, as the desk answered it; nothing arrives there
  abbrev pub OnDesk : DeskCall → DeskAnswer → Type 0
  OnDesk (Arrive caller item) answer = Unit {0}
  OnDesk (Next dest now) (Upcoming due) = TellsRow dest now due
  OnDesk (Due dest now) (First found) = TellsUid dest now found
  OnDesk (Settle uid dest outcome now) (Settling answer) = Settled uid dest outcome now answer
  OnDesk asked answer = ⊥

  -- one call more of them, the newest first
  abbrev pub Records : List AnsweredCall → DeskCall → DeskAnswer → List AnsweredCall → Type 0
  Records before asked answer calls = (calls ≡ (asked, answer) ∷ before) × OnDesk asked answer

  -- what is due was asked for before the session
  abbrev pub LooksUp : List AnsweredCall → Text → ℕ
      → Result (Option Text) LedgerFault
      → List AnsweredCall → Type 0
  LooksUp before dest now found calls = (calls ≡ before) × TellsUid dest now found

  -- from when on the first row for it is due, as the desk answered at some moment
  abbrev pub TellsDue : Text → Result (Option ℕ) LedgerFault → Type 0
  TellsDue dest found =
      Reading site_of book bodies stands failed own first
      (λ l answer. Reads answer (IsLeast (dues (map.entries (book l).rows) dest))) found

  -- whether an instance of that uid is there, as the desk answered at some moment
  abbrev pub TellsWhetherThere : Text → Result Bool LedgerFault → Type 0
  TellsWhetherThere uid found =
      Reading site_of book bodies stands failed own first
      (λ l answer. Reads answer (λ there. there ≡ map.contains_key (book l).items uid)) found

  -- what a fault of a visit is told as, by what the desk answered behind it
  abbrev pub IsTold : LedgerFault → LedgerFault → Type 0
  IsTold came why =
      (uid : Text) × (found : Result Bool LedgerFault)
      × TellsWhetherThere uid found
      × (why ≡ told_as found came)

  -- whether the store is shut, as the desk answered to such a call: that its store failed
  abbrev pub TellsShut : Bool → Type 0
  TellsShut shut =
      (uid : Text) × (found : Result Bool LedgerFault)
      × TellsWhetherThere uid found
      × (IsTrue shut ↔ (found ≡ Err fault.Store))

  module _ {K : Type 0} (connects : Text → Result K Error → Type 0)
      (hears : K → Heard → K → Type 0)
      (sends : K → List ℕ → Bool → K → Type 0) (closes : K → K → Type 0) (tells : ℕ → Type 0)
      (site : Part) where
    -- a visit to that node at that address, which came to that, and at which these calls were made
    abbrev pub VisitsBy : Text → Text → Result Visit LedgerFault → List AnsweredCall → Type 0
    VisitsBy dest address came calls =
        Visits connects hears sends closes Records LooksUp accepted tells site dest address [] came
        calls

-- ---- what follows

-- What one who sends was called for: rows may have been made, which is looked up, and the rest is
-- short; somebody wants a visit now, which is looked up, and the rest is over.
abbrev pub IsHeeded : (rows visit : Bool) → Rest × ℕ → Rest × ℕ → Type 0
IsHeeded rows visit old new =
    (new.1 ≡ cond (rows || visit) 0 old.1)
    × (new.0.since ≡ cond visit 0 old.0.since)
    × (new.0.wait ≡ old.0.wait)
    × (new.0.short ≡ (rows || old.0.short))

-- a rest of one second from that moment on
abbrev pub IsFirstRest : ℕ → Rest → Type 0
IsFirstRest now rest = (rest.since ≡ now) × (rest.wait ≡ 1000) × (rest.short ≡ false)

module _ (Visiting : Result Visit LedgerFault → List AnsweredCall → Type 0) where
  -- What came of a visit, with what was noted of the calls that were made at it; or what its fault
  -- is told as.
  abbrev pub ComesBack : (LedgerFault → LedgerFault → Type 0) → Result (Visit × Noted) LedgerFault
      → Type 0
  ComesBack Told (Ok x) =
      (calls : List AnsweredCall) × Visiting (Ok x.0) calls × IsNotedOf calls x.1
  ComesBack Told (Err why) =
      (calls : List AnsweredCall) × (came : LedgerFault) × Visiting (Err came) calls × Told came why

  module _ (Told : LedgerFault → LedgerFault → Type 0)
      (FirstDue : Result (Option ℕ) LedgerFault → Type 0) (tells : ℕ → Type 0) where
    -- What follows a visit: the rest behind it, at a moment that the clock told; from when on a row
    -- is due, as the desk told it then; and how it ended. Or the visit came to a fault, or the desk
    -- couldn't tell what is due.
    abbrev pub Sends : Rest → Result (Option VisitEnd) LedgerFault → Rest → ℕ → Type 0
    Sends old (Ok ended) rest due =
        (x : Visit × Noted) × (now : ℕ) × (found : Result (Option ℕ) LedgerFault)
        × ComesBack Told (Ok x)
        × tells now
        × IsRestAfter old x.0 x.1 now rest
        × FirstDue found
        × (due_of found ≡ Ok due)
        × (ended ≡ end_of x.0)
    Sends old (Err why) rest due =
        ComesBack Told (Err why)
        ⊎ ((x : Visit × Noted) × (found : Result (Option ℕ) LedgerFault)
        × ComesBack Told (Ok x)
        × FirstDue found
        × (due_of found ≡ Err why))

    -- The same, and where that failed it isn't known what is due: that is looked up behind a rest
    -- of one second.
    abbrev pub SendsOrRests : Rest → Option VisitEnd → Rest → ℕ → Type 0
    SendsOrRests old ended rest due =
        Sends old (Ok ended) rest due
        ⊎ ((why : LedgerFault) × (now : ℕ)
        × Sends old (Err why) rest due
        × tells now
        × (due ≡ 0)
        × IsFirstRest now rest
        × (ended ≡ Some Ledger))

    -- What one who sends does as it looks: what it was called for is heeded, and the hop is visited
    -- then, where a row is due and its rest is over, or for the last time; else nothing is done.
    abbrev pub Looks : (rows visit last : Bool) → Rest × ℕ → Bool → Rest × ℕ → Type 0
    Looks rows visit last old true new =
        (mid : Rest × ℕ) × (now : ℕ) × (ended : Option VisitEnd)
        × IsHeeded rows visit old mid
        × tells now
        × IsVisited mid.1 mid.0 last now
        × SendsOrRests mid.0 ended new.0 new.1
    Looks rows visit last old false new =
        (now : ℕ)
        × IsHeeded rows visit old new
        × tells now
        × (IsVisited new.1 new.0 last now → ⊥)

    -- the same, for what it was called for, as it was told; and whether the hop was visited
    abbrev pub LooksOnce : (WakeUp → Type 0) → Rest × ℕ → WakeUp × Bool → Rest × ℕ → Type 0
    LooksOnce Called old looked new =
        Called looked.0 × Looks looked.0.rows looked.0.visit looked.0.over old looked.1 new

-- When one who sends looks no more: it was told that the node ends; or it was called since no
-- worker is left, and looked then. It never looks where it has no bell, or where it was told that
-- no worker began.
abbrev pub EndsLooking : (NoBell NoWorkers Ending : Type 0) → List (WakeUp × Bool) → Type 0
EndsLooking NoBell NoWorkers Ending each =
    ((each ≡ []) × (NoBell ⊎ NoWorkers))
    ⊎ Ending
    ⊎ ((before : List (WakeUp × Bool)) × (call : WakeUp) × (visited : Bool)
    × (each ≡ before ++ (call, visited) ∷ []) × (call.over ≡ true))
