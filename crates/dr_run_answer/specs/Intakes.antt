-- What came, and what the lines amount to by which a node counts it: by caller since it serves, and
-- by caller and modality of the last hour.
use Rattle.std.specs.Prelude.{◌≡◌, ◌≤◌, ◌+◌, ◌-◌, ◌^◌, ◌&&◌, ℕ, Bool, true, false, not}
use Rattle.std.specs.Prelude.{if◌then◌else◌, List, bytes_eq, map as mapped, nat_lt, Ok, Err, sum_by}
use Rattle.std.specs.List.{IsDistinct}
use Rattle.dr_base.specs.Texts.{Text}
use Rattle.dr_ledger.specs.declared.item.Arrived.TheVariants as arrived
use Rattle.dr_run_answer.specs.declared.intake.Brought.{Brought}
use Rattle.dr_run_answer.specs.declared.intake.Recent.{Recent}
use Rattle.dr_run_answer.specs.declared.noted.Minute.{Minute}
use Rattle.dr_run_answer.specs.declared.noted.CallerShare.{CallerShare}
use Rattle.dr_ledger.specs.Replies.{Reply}

-- An instance that came: from whom, of which modality, in which minute since 1970, of how many
-- bytes, and what was answered.
pub record Notice : Type 0 where
  pub caller : Text
  pub modality : Text
  pub minute : ℕ
  pub size : ℕ
  pub answer : Reply

abbrev pub is_stored : Reply → Bool
is_stored (Ok arrived.New) = true
is_stored (Ok arrived.Again) = false
is_stored (Err why) = false

abbrev pub is_again : Reply → Bool
is_again (Ok arrived.New) = false
is_again (Ok arrived.Again) = true
is_again (Err why) = false

abbrev pub is_refused : Reply → Bool
is_refused (Ok took) = false
is_refused (Err why) = true

-- so many, where that is so
abbrev pub if_so : Bool → ℕ → ℕ
if_so so amount = if so then amount else 0

-- the greatest number that is counted
abbrev pub most : ℕ
most = 2 ^ 64 - 1

-- ---- by caller

-- to how many of a caller's instances such an answer was given
abbrev pub answers_to : (Reply → Bool) → Text → List Notice → ℕ
answers_to such caller all =
    sum_by (λ (n : Notice). if_so (bytes_eq n.caller caller && such n.answer) 1) all

-- how many bytes those have that were stored
abbrev pub bytes_from : Text → List Notice → ℕ
bytes_from caller all =
    sum_by (λ (n : Notice). if_so (bytes_eq n.caller caller && is_stored n.answer) n.size) all

-- what lines say of a caller
abbrev pub said_of : (Brought → ℕ) → Text → List Brought → ℕ
said_of figure caller lines =
    sum_by (λ (b : Brought). if_so (bytes_eq b.caller caller) (figure b)) lines

abbrev pub callers_of : List Brought → List Text
callers_of lines = mapped (λ (b : Brought). b.caller) lines

-- The lines are the totals of the instances: a caller has one at most, with all that it brought.
pub record AreTotals (all : List Notice) (lines : List Brought) : Type 0 where
  pub apart : IsDistinct bytes_eq (callers_of lines)
  pub stored : (caller : Text)
      → said_of (λ b. b.stored) caller lines ≡ answers_to is_stored caller all
  pub again : (caller : Text) → said_of (λ b. b.again) caller lines ≡ answers_to is_again caller all
  pub refused : (caller : Text)
      → said_of (λ b. b.refused) caller lines ≡ answers_to is_refused caller all
  pub bytes : (caller : Text) → said_of (λ b. b.bytes) caller lines ≡ bytes_from caller all

-- an instance raises the figures of its caller by that
abbrev pub IsShare : Reply → ℕ → CallerShare → Type 0
IsShare answer size share =
    (share.stored ≡ if_so (is_stored answer) 1)
    × (share.again ≡ if_so (is_again answer) 1)
    × (share.refused ≡ if_so (is_refused answer) 1)
    × (share.bytes ≡ if_so (is_stored answer) size)

-- A figure of that caller has grown by so much, and those of others by nothing; where it would
-- leave 64 bits nothing is said.
abbrev pub Grows : (Brought → ℕ) → Text → ℕ → List Brought → List Brought → Type 0
Grows figure caller amount old new =
    (other : Text)
    → said_of figure other old + if_so (bytes_eq caller other) amount ≤ most
    → said_of figure other new ≡ said_of figure other old + if_so (bytes_eq caller other) amount

-- one instance more of a caller was answered so
pub record CountsOne (caller : Text) (answer : Reply) (size : ℕ) (old new : List Brought)
    : Type 0 where
  pub apart : IsDistinct bytes_eq (callers_of old) → IsDistinct bytes_eq (callers_of new)
  pub stored : Grows (λ b. b.stored) caller (if_so (is_stored answer) 1) old new
  pub again : Grows (λ b. b.again) caller (if_so (is_again answer) 1) old new
  pub refused : Grows (λ b. b.refused) caller (if_so (is_refused answer) 1) old new
  pub bytes : Grows (λ b. b.bytes) caller (if_so (is_stored answer) size) old new

-- ---- by minute, caller and modality

-- that minute is of the hour that ends with this one
abbrev pub is_of_hour : ℕ → ℕ → Bool
is_of_hour now minute = nat_lt (now - minute) 60

-- it is of that caller and modality
abbrev pub is_by : Text → Text → Recent → Bool
is_by caller modality line = bytes_eq line.caller caller && bytes_eq line.modality modality

-- how many instances of a caller and a modality were taken, or refused, within the hour
abbrev pub came_within : (Reply → Bool) → Text → Text → ℕ → List Notice → ℕ
came_within such caller modality now all =
    sum_by
    (λ (n : Notice). if_so
    (is_of_hour now n.minute
    && ((bytes_eq n.caller caller && bytes_eq n.modality modality) && such n.answer)) 1)
    all

-- what the lines of minutes say of it
abbrev pub is_within : Text → Text → ℕ → Minute → Bool
is_within caller modality now one = is_of_hour now one.minute && is_by caller modality one.recent

abbrev pub said_within : (Recent → ℕ) → Text → Text → ℕ → List Minute → ℕ
said_within figure caller modality now lines =
    sum_by
    (λ (one : Minute). if_so (is_within caller modality now one) (figure one.recent)) lines

-- and what lines without minutes say
abbrev pub said_by : (Recent → ℕ) → Text → Text → List Recent → ℕ
said_by figure caller modality lines =
    sum_by (λ (line : Recent). if_so (is_by caller modality line) (figure line)) lines

-- a caller and a modality have one line at most
abbrev pub same_names : Text × Text → Text × Text → Bool
same_names a b = bytes_eq a.0 b.0 && bytes_eq a.1 b.1

abbrev pub names_of : List Recent → List (Text × Text)
names_of lines = mapped (λ (line : Recent). (line.caller, line.modality)) lines

-- The lines of minutes are those of the instances, of each hour that ends with that minute or
-- later.
pub record KeepHours (from : ℕ) (all : List Notice) (lines : List Minute) : Type 0 where
  pub taken : (caller modality : Text) (now : ℕ) → from ≤ now
      → said_within (λ r. r.stored) caller modality now lines
      ≡ came_within (λ answer. not (is_refused answer)) caller modality now all
  pub refused : (caller modality : Text) (now : ℕ) → from ≤ now
      → said_within (λ r. r.refused) caller modality now lines
      ≡ came_within is_refused caller modality now all

-- A figure of that minute, caller and modality has grown by so much, and others by nothing.
abbrev pub GrowsAt : (Recent → ℕ) → ℕ → Text → Text → ℕ → List Minute → List Minute → Type 0
GrowsAt figure minute caller modality amount old new =
    (other kind : Text) (now : ℕ)
    → let grown = if_so
    (is_of_hour now minute && (bytes_eq caller other && bytes_eq modality kind)) amount in
    said_within figure other kind now old + grown ≤ most
    → said_within figure other kind now new ≡ said_within figure other kind now old + grown

-- a line was added in that minute
pub record AddsAt (minute : ℕ) (line : Recent) (old new : List Minute) : Type 0 where
  pub stored : GrowsAt (λ r. r.stored) minute line.caller line.modality line.stored old new
  pub refused : GrowsAt (λ r. r.refused) minute line.caller line.modality line.refused old new

-- one instance more came in that minute, and was taken or refused
pub record CountsMinute (minute : ℕ) (caller modality : Text) (taken : Bool)
    (old new : List Minute) : Type 0 where
  pub stored : GrowsAt (λ r. r.stored) minute caller modality (if_so taken 1) old new
  pub refused : GrowsAt (λ r. r.refused) minute caller modality (if_so (not taken) 1) old new

-- so much more came of a caller and modality
abbrev pub GrowsBy : (Recent → ℕ) → Recent → List Recent → List Recent → Type 0
GrowsBy figure line old new =
    (caller modality : Text)
    → said_by figure caller modality old + if_so (is_by caller modality line) (figure line) ≤ most
    → said_by figure caller modality new
    ≡ said_by figure caller modality old + if_so (is_by caller modality line) (figure line)

pub record AddsRecentLine (line : Recent) (old new : List Recent) : Type 0 where
  pub apart : IsDistinct same_names (names_of old) → IsDistinct same_names (names_of new)
  pub stored : GrowsBy (λ r. r.stored) line old new
  pub refused : GrowsBy (λ r. r.refused) line old new

-- the same of a line of a minute, where that is of the hour
abbrev pub GrowsWithin : (Recent → ℕ) → ℕ → Minute → List Recent → List Recent → Type 0
GrowsWithin figure now one old new =
    (caller modality : Text)
    → let grown = if_so (is_within caller modality now one) (figure one.recent) in
    said_by figure caller modality old + grown ≤ most
    → said_by figure caller modality new ≡ said_by figure caller modality old + grown

pub record AddsRecent (now : ℕ) (one : Minute) (old new : List Recent) : Type 0 where
  pub apart : IsDistinct same_names (names_of old) → IsDistinct same_names (names_of new)
  pub stored : GrowsWithin (λ r. r.stored) now one old new
  pub refused : GrowsWithin (λ r. r.refused) now one old new

-- a figure of the lines is that of the minutes of the hour that ends with this one
abbrev pub SumsUp : (Recent → ℕ) → ℕ → List Minute → List Recent → Type 0
SumsUp figure now minutes lines =
    (caller modality : Text)
    → said_within figure caller modality now minutes ≤ most
    → said_by figure caller modality lines ≡ said_within figure caller modality now minutes

-- What came within the hour: a line for each caller and modality.
pub record AreRecent (now : ℕ) (minutes : List Minute) (lines : List Recent) : Type 0 where
  pub apart : IsDistinct same_names (names_of lines)
  pub stored : SumsUp (λ r. r.stored) now minutes lines
  pub refused : SumsUp (λ r. r.refused) now minutes lines
