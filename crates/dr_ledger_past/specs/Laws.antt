-- Laws of books whose first lines stand elsewhere: what a call answers, and what a book shows, is
-- the same with the past's lines before its own and without them. So whoever has no more than what
-- the past made, and the lines since, answers for all.
use Rattle.std.specs.Prelude.{◌≡◌, ◌↔◌, ◌≤◌, ◌^◌, ℕ, List, [], ◌++◌, map as mapped, Option, Result}
use Rattle.dr_base.specs.Texts.{Text}
use Rattle.dr_plan_model.specs.Networks.{Network}
use Rattle.dr_ledger.specs.declared.content.NextRow.{NextRow}
use Rattle.dr_ledger.specs.declared.fault.LedgerFault.{LedgerFault}
use Rattle.dr_ledger.specs.declared.item.Arrived.{Arrived}
use Rattle.dr_ledger.specs.declared.item.Instance.{Instance}
use Rattle.dr_ledger.specs.declared.item.Outcome.{Outcome}
use Rattle.dr_ledger.specs.Adopting.{Adopting, IsFit, Unfits}
use Rattle.dr_ledger.specs.Bodies.{Bodies, HasBodies, IsNeeded, LosesNone, NextsWith}
use Rattle.dr_ledger.specs.Books.{Book, Line, Adoption, Fold, after, empty_book, folded}
use Rattle.dr_ledger.specs.Histories.{IsCall, IsHistory, IsJournalled, IsPast, IsSolid, IsSomeCall}
use Rattle.dr_ledger.specs.Pairs.{Pair}
use Rattle.dr_ledger.specs.Replies.{Admits, AreKept, Arrives, Drops, Dues, Forgets, IsAdmitted}
use Rattle.dr_ledger.specs.Replies.{IsHeld, IsOver, IsWaiting, Nexts, Requeues, Settles, entry_of}
use Rattle.dr_ledger.specs.Routings.{Routing}
use Rattle.dr_ledger_history.specs.Contents.{book_of, content_of}
use Rattle.dr_ledger_past.specs.Pasts.{GoesOnFrom, with_past}

-- ---- pasts

-- no lines before a book change nothing
abbrev pub NoPastChangesNothing : Type 0
NoPastChangesNothing = (b : Book) → with_past [] b ≡ b

-- two pasts, one behind the other, are one
abbrev pub PastsAreOne : Type 0
PastsAreOne =
    (first second : List Line) (b : Book)
    → with_past first (with_past second b) ≡ with_past (first ++ second) b

-- Two books are told apart with the same past before both.
abbrev pub BooksStayApart : Type 0
BooksStayApart =
    (past : List Line) (b other : Book) → with_past past b ≡ with_past past other → b ≡ other

-- So are two pasts before one book.
abbrev pub PastsStayApart : Type 0
PastsStayApart =
    (past other : List Line) (b : Book) → with_past past b ≡ with_past other b → past ≡ other

-- Where its first lines leave a book and go behind the past, nothing changes with the past.
abbrev pub LeavingLinesChangeNothing : Type 0
LeavingLinesChangeNothing =
    (past gone : List Line) (b left : Book)
    → content_of left ≡ content_of b
    → b.lines ≡ gone ++ left.lines
    → with_past (past ++ gone) left ≡ with_past past b

-- ---- lines

-- one line more is one line more with the past
abbrev pub OneLineMore : Type 0
OneLineMore =
    (past : List Line) (line : Line) (b : Book)
    → after line (with_past past b) ≡ with_past past (after line b)

-- so it is with some lines
abbrev pub MoreLines : Type 0
MoreLines =
    (past lines : List Line) (b : Book)
    → folded (with_past past b) lines ≡ with_past past (folded b lines)

-- what a past and lines behind it make is what these make of what the past made
abbrev pub FoldsGoOn : Type 0
FoldsGoOn =
    (past lines : List Line)
    → Fold (past ++ lines) ≡ with_past past (folded (book_of (content_of (Fold past))) lines)

-- ---- answers

-- what is said of the books before and after a call is said of both with a past just as without it
abbrev pub AreAlike : (Book → Book → Type 0) → Type 0
AreAlike Answers =
    (past : List Line) (old new : Book)
    → Answers (with_past past old) (with_past past new) ↔ Answers old new

-- the same of one book
abbrev pub IsAlike : (Book → Type 0) → Type 0
IsAlike Says = (past : List Line) (b : Book) → Says (with_past past b) ↔ Says b

-- What each call answers, with the book that it leaves.
pub record CallsAreAlike (routing : Routing) : Type 0 where
  pub arrive : (caller : Text) (item : Instance) (r : Result Arrived LedgerFault)
      → AreAlike (λ old new. Arrives routing caller item old r new)
  pub settle : (uid dest : Text) (outcome : Outcome) (now : ℕ) (r : Result (Unit {0}) LedgerFault)
      → AreAlike (λ old new. Settles uid dest outcome now old r new)
  pub requeue : (uid dest : Text) (r : Result (Unit {0}) LedgerFault)
      → AreAlike (λ old new. Requeues uid dest old r new)
  pub drops : (uid dest : Text) (now : ℕ) (r : Result (Unit {0}) LedgerFault)
      → AreAlike (λ old new. Drops uid dest now old r new)
  pub forget : (uid : Text) (r : Result (Unit {0}) LedgerFault)
      → AreAlike (λ old new. Forgets uid old r new)
  pub adopt : (r : Result (Unit {0}) LedgerFault) → AreAlike (λ old new. Adopting old r new)
  pub bodies : (old_bodies new_bodies : Bodies)
      → AreAlike (λ old new. LosesNone old old_bodies new new_bodies)

-- What calls that only read answer, but for the lines.
pub record AnswersAreAlike (routing : Routing) : Type 0 where
  pub admits : (caller : Text) (item : Instance) (r : Result (Unit {0}) LedgerFault)
      → IsAlike (λ b. Admits routing caller item b r)
  pub next : (bodies : Bodies) (dest : Text) (now : ℕ) (found : Option NextRow)
      → IsAlike (λ b. NextsWith b bodies dest now found)
  pub instance : (dest : Text) (now : ℕ) (found : Option Instance)
      → IsAlike (λ b. Nexts b dest now found)
  pub due : (dest : Text) (now : ℕ) (found : Option Text) → IsAlike (λ b. Dues b dest now found)
  pub kept : (all : List (Text × ℕ)) → IsAlike (λ b. AreKept b all)
  pub unfit : (next : Network) (name : Text) (found : Option Pair)
      → IsAlike (λ b. Unfits next name b found)

-- What calls ask of a book.
pub record AskingsAreAlike (routing : Routing) : Type 0 where
  pub admitted : (caller : Text) (item : Instance) → IsAlike (IsAdmitted routing caller item)
  pub waiting : (uid dest : Text) → IsAlike (λ b. IsWaiting b uid dest)
  pub held : (uid dest : Text) → IsAlike (λ b. IsHeld b uid dest)
  pub over : (uid : Text) → IsAlike (λ b. IsOver b uid)
  pub needed : (uid : Text) → IsAlike (λ b. IsNeeded b uid)
  pub fit : (next : Network) (name : Text) → IsAlike (IsFit next name)
  pub bodies : (bodies : Bodies) → IsAlike (λ b. HasBodies b bodies)
  pub solid : IsAlike IsSolid

-- The lines are those of the past, and then the book's own; all else is the book's.
abbrev pub LinesAreBoth : Type 0
LinesAreBoth =
    (past : List Line) (b : Book)
    → (mapped entry_of (with_past past b).lines
    ≡ mapped entry_of past ++ mapped entry_of b.lines)
    × (content_of (with_past past b) ≡ content_of b)

-- ---- histories

-- lines are a history from a book on, with a past before it just as without it
pub record HistoriesAreAlike (routing : Routing) : Type 0 where
  pub call : (line : Line) → IsAlike (IsCall routing line)
  pub history : (lines : List Line) → IsAlike (IsHistory routing lines)
  pub some_call : (line : Line) → IsAlike (IsSomeCall line)
  pub accepted : (lines : List Line) → IsAlike (IsPast lines)

-- With its past a book is what its journal makes just where it goes on from the past.
abbrev pub JournalsGoOn : Routing → Type 0
JournalsGoOn routing =
    (past : List Line) (b : Book)
    → IsJournalled routing (with_past past b) ↔ GoesOnFrom routing past b

-- Of a past no more counts than what it made, and whether it is one under the plan in force.
abbrev pub WhatWasMadeCounts : Routing → Type 0
WhatWasMadeCounts routing =
    (past other : List Line) (b : Book)
    → IsJournalled routing (with_past past b)
    → content_of (Fold other) ≡ content_of (Fold past)
    → IsPast other empty_book
    → (IsJournalled routing (Fold past) → IsJournalled routing (Fold other))
    → IsJournalled routing (with_past other b)

-- So a book that its journal makes goes on as one by each call, with its past.
pub record CallsGoOn (routing : Routing) : Type 0 where
  pub arrive : (past : List Line) (caller : Text) (item : Instance) (old new : Book)
      (r : Result Arrived LedgerFault)
      → IsJournalled routing (with_past past old)
      → Arrives routing caller item old r new
      → IsJournalled routing (with_past past new)
  pub settle : (past : List Line) (uid dest : Text) (outcome : Outcome) (now : ℕ) (old new : Book)
      (r : Result (Unit {0}) LedgerFault)
      → now ≤ 2 ^ 62
      → IsJournalled routing (with_past past old)
      → Settles uid dest outcome now old r new
      → IsJournalled routing (with_past past new)
  pub requeue : (past : List Line) (uid dest : Text) (old new : Book)
      (r : Result (Unit {0}) LedgerFault)
      → IsJournalled routing (with_past past old)
      → Requeues uid dest old r new
      → IsJournalled routing (with_past past new)
  pub drops : (past : List Line) (uid dest : Text) (now : ℕ) (old new : Book)
      (r : Result (Unit {0}) LedgerFault)
      → now ≤ 2 ^ 62
      → IsJournalled routing (with_past past old)
      → Drops uid dest now old r new
      → IsJournalled routing (with_past past new)
  pub forget : (past : List Line) (uid : Text) (old new : Book) (r : Result (Unit {0}) LedgerFault)
      → IsJournalled routing (with_past past old)
      → Forgets uid old r new
      → IsJournalled routing (with_past past new)

-- and by an adoption, as one under the next plan
abbrev pub AdoptionsGoOn : Routing → Routing → Type 0
AdoptionsGoOn routing next =
    (past : List Line) (b : Book)
    → IsJournalled routing (with_past past b)
    → IsJournalled next (with_past past (after Adoption b))

-- and it is solid
abbrev pub JournalsWithPastsAreSolid : Routing → Type 0
JournalsWithPastsAreSolid routing =
    (past : List Line) (b : Book) → IsJournalled routing (with_past past b) → IsSolid b
