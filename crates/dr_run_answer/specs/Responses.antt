-- The statuses of responses that were sent, and what the lines amount to by which they are counted.
use Rattle.std.specs.Prelude.{◌≡◌, ◌≤◌, ◌<◌, ◌+◌, ◌/◌, ◌%◌, ◌∷◌, ◌++◌, ◌&&◌, ℕ, Bool, true, false}
use Rattle.std.specs.Prelude.{List, [], Option, None, Some, IfNone, bytes_eq, codes, flat_map}
use Rattle.std.specs.Prelude.{map as mapped, nat_eq, position, sum_by}
use Rattle.std.specs.List.{IsDistinct}
use Rattle.std.specs.Option.{option_eq}
use Rattle.dr_base.specs.Texts.{Text}
use Rattle.hex.specs.Hex.{encode_upper}
use Rattle.dr_run_answer.specs.Answers.{twice_labelled}
use Rattle.dr_run_answer.specs.Intakes.{if_so, most}
use Rattle.dr_run_answer.specs.declared.responses.ResponseCount.{ResponseCount}

-- a response that was sent: to whom, and its status
pub record Response : Type 0 where
  pub caller : Text
  pub status : ℕ

-- how many were sent to a caller, and how many of a status
abbrev pub sent_to : Text → List Response → ℕ
sent_to caller all = sum_by (λ (r : Response). if_so (bytes_eq r.caller caller) 1) all

abbrev pub sent_as : Text → ℕ → List Response → ℕ
sent_as caller status all =
    sum_by (λ (r : Response). if_so (bytes_eq r.caller caller && nat_eq r.status status) 1) all

-- ---- lines

-- two statuses are the same; None stands for all that have no line of their own
abbrev pub same_status : Option ℕ → Option ℕ → Bool
same_status a b = option_eq nat_eq a b

-- the line is that of a caller and a status
abbrev pub is_line_of : Text → Option ℕ → ResponseCount → Bool
is_line_of caller status line = bytes_eq line.caller caller && same_status line.status status

-- a caller and a status have one line at most
abbrev pub same_names : Text × Option ℕ → Text × Option ℕ → Bool
same_names a b = bytes_eq a.0 b.0 && same_status a.1 b.1

abbrev pub names_of : List ResponseCount → List (Text × Option ℕ)
names_of lines = mapped (λ (line : ResponseCount). (line.caller, line.status)) lines

-- what lines count for a caller, and for a status of it
abbrev pub counted_for : Text → List ResponseCount → ℕ
counted_for caller lines =
    sum_by (λ (line : ResponseCount). if_so (bytes_eq line.caller caller) line.count) lines

abbrev pub counted_as : Text → Option ℕ → List ResponseCount → ℕ
counted_as caller status lines =
    sum_by (λ (line : ResponseCount). if_so (is_line_of caller status line) line.count) lines

-- the line is that of one status of a caller, and how many such lines there are
abbrev pub has_own : Option ℕ → Bool
has_own None = false
has_own (Some status) = true

abbrev pub is_kind_of : Text → ResponseCount → Bool
is_kind_of caller line = bytes_eq line.caller caller && has_own line.status

abbrev pub kinds_of : Text → List ResponseCount → ℕ
kinds_of caller lines = sum_by (λ (line : ResponseCount). if_so (is_kind_of caller line) 1) lines

-- Under what a response is counted: under its own status, where this has a line or fewer than 16
-- statuses of the caller have one; else under that of all others.
abbrev pub IsCountedUnder : Text → ℕ → List ResponseCount → Option ℕ → Type 0
IsCountedUnder caller status lines None =
    (position (is_line_of caller (Some status)) lines ≡ None) × (16 ≤ kinds_of caller lines)
IsCountedUnder caller status lines (Some own) =
    (own ≡ status)
    × IfNone (position (is_line_of caller (Some status)) lines) (kinds_of caller lines < 16)

-- One response more is counted for its caller, and once, under what the rule says. Where a figure
-- would leave 64 bits nothing is said of it.
pub record CountsStatus (caller : Text) (status : ℕ) (old new : List ResponseCount) : Type 0 where
  pub under : Option ℕ
  pub rule : IsCountedUnder caller status old under
  pub apart : IsDistinct same_names (names_of old) → IsDistinct same_names (names_of new)
  pub few : (other : Text) → kinds_of other old ≤ 16 → kinds_of other new ≤ 16
  pub whole : (other : Text)
      → counted_for other old + if_so (bytes_eq caller other) 1 ≤ most
      → counted_for other new ≡ counted_for other old + if_so (bytes_eq caller other) 1
  pub one : (other : Text) (kind : Option ℕ)
      → counted_as other kind old + if_so (bytes_eq caller other && same_status under kind) 1 ≤ most
      → counted_as other kind new
      ≡ counted_as other kind old + if_so (bytes_eq caller other && same_status under kind) 1

-- The lines are those of the responses. A caller has one line at most for each status, and 16 of
-- these at most. No response is lost, and none counts for another status than its own; where none
-- is counted among the others, each line has all of its status.
pub record AreResponses (all : List Response) (lines : List ResponseCount) : Type 0 where
  pub apart : IsDistinct same_names (names_of lines)
  pub few : (caller : Text) → kinds_of caller lines ≤ 16
  pub whole : (caller : Text) → counted_for caller lines ≡ sent_to caller all
  pub own : (caller : Text) (status : ℕ)
      → counted_as caller (Some status) lines ≤ sent_as caller status all
  pub all_own : (caller : Text) → counted_as caller None lines ≡ 0
      → (status : ℕ) → counted_as caller (Some status) lines ≡ sent_as caller status all

-- ---- figures

-- a status in four hex digits, or `other`
abbrev pub status_word : Option ℕ → Text
status_word None = codes "other"
status_word (Some status) = encode_upper (status / 256 ∷ status % 256 ∷ [])

-- how many responses of a status a caller was sent
abbrev pub response_figure : ResponseCount → Text
response_figure line =
    twice_labelled (codes "dr_router_answers_total") (codes "caller") line.caller (codes "status")
    (status_word line.status) line.count

-- the same of each caller and status
abbrev pub response_figures : List ResponseCount → Text
response_figures lines =
    codes "# TYPE dr_router_answers_total counter\n" ++ flat_map response_figure lines
