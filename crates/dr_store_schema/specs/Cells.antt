-- What the cells of a row say, and how a row's progress and an outcome are written into cells.
use Rattle.std.specs.Prelude.{ℕ, zero, suc, ℤ, pos, negsuc, ◌^◌, min, Bool, true, false, List, []}
use Rattle.std.specs.Prelude.{◌∷◌, Option, None, Some}
use Rattle.std.specs.Str.{bytes_eq}
use Rattle.sqlite.specs.declared.types.Value.{Value}
use Rattle.sqlite.specs.declared.types.Value.TheVariants.{Null, Int, Text, Real, Blob}
use Rattle.sqlite.specs.Order.{Row}
use Rattle.dr_base.specs.declared.syntax.Syntax.{Syntax}
use Rattle.dr_base.specs.declared.syntax.Syntax.TheVariants.{Implicit, Explicit}
use Rattle.dr_ledger.specs.declared.item.Cause.{Cause}
use Rattle.dr_ledger.specs.declared.item.Cause.TheVariants as cause
use Rattle.dr_ledger.specs.declared.item.Outcome.{Outcome}
use Rattle.dr_ledger.specs.declared.item.Outcome.TheVariants as outcome
use Rattle.dr_ledger.specs.declared.item.Progress.{Progress}
use Rattle.dr_ledger.specs.declared.item.Progress.TheVariants.{Waiting, Held, Done, Dropped}

-- ---- cells. A strict table has in each column only values of the column's type, so that the other
-- cases don't occur.

-- the text of a cell
abbrev pub text_in : Value → List ℕ
text_in Null = []
text_in (Int n) = []
text_in (Real x) = []
text_in (Text t) = t
text_in (Blob b) = []

-- the bytes of a cell
abbrev pub bytes_in : Value → List ℕ
bytes_in Null = []
bytes_in (Int n) = []
bytes_in (Real x) = []
bytes_in (Text t) = []
bytes_in (Blob b) = b

abbrev pub natural : ℤ → ℕ
natural (pos n) = n
natural (negsuc n) = 0

-- the number of a cell
abbrev pub number_in : Value → ℕ
number_in Null = 0
number_in (Int n) = natural n
number_in (Real x) = 0
number_in (Text t) = 0
number_in (Blob b) = 0

-- ---- moments (milliseconds since 1970). A line whose moment nobody told has NULL there.

-- the moment of a cell
abbrev pub moment_in : Value → Option ℕ
moment_in Null = None
moment_in (Int n) = Some (natural n)
moment_in (Real x) = None
moment_in (Text t) = None
moment_in (Blob b) = None

-- the cell of a moment; from 2^62 on all are one
abbrev pub moment_value : Option ℕ → Value
moment_value None = Null
moment_value (Some now) = Int (pos (min now (2 ^ 62)))

-- ---- transfer syntaxes: `I` is implicit VR little endian, `E` explicit

abbrev pub syntax_by : Bool → Syntax
syntax_by true = Implicit
syntax_by false = Explicit

abbrev pub syntax_marked : List ℕ → Syntax
syntax_marked mark = syntax_by (bytes_eq mark (73 ∷ []))

abbrev pub mark_of : Syntax → List ℕ
mark_of Implicit = 73 ∷ []
mark_of Explicit = 69 ∷ []

-- ---- queue: how far an instance is. State 0 waits, 1 is held, 2 is done, 3 is dropped; a held
-- row's cause is a status, NULL where the association had no presentation context, or -2 where the
-- data set can't be read.

abbrev pub cause_in : Value → Cause
cause_in Null = cause.NoContext
cause_in (Int (pos status)) = cause.Status status
cause_in (Int (negsuc n)) = cause.Unreadable
cause_in (Real x) = cause.NoContext
cause_in (Text t) = cause.NoContext
cause_in (Blob b) = cause.NoContext

abbrev pub progress_by : ℕ → ℕ → ℕ → Cause → Progress
progress_by zero tries due why = Waiting tries due
progress_by (suc zero) tries due why = Held why
progress_by (suc (suc zero)) tries due why = Done
progress_by (suc (suc (suc more))) tries due why = Dropped

-- what the cells state, tries, due and cause say
abbrev pub progress_in : Value → Value → Value → Value → Progress
progress_in state tries due why =
    progress_by (number_in state) (number_in tries) (number_in due) (cause_in why)

abbrev pub state_of : Progress → ℕ
state_of (Waiting tries due) = 0
state_of (Held why) = 1
state_of Done = 2
state_of Dropped = 3

abbrev pub tries_of : Progress → ℕ
tries_of (Waiting tries due) = tries
tries_of (Held why) = 0
tries_of Done = 0
tries_of Dropped = 0

abbrev pub due_of : Progress → ℕ
due_of (Waiting tries due) = due
due_of (Held why) = 0
due_of Done = 0
due_of Dropped = 0

abbrev pub cause_value : Cause → Value
cause_value (cause.Status status) = Int (pos status)
cause_value cause.NoContext = Null
cause_value cause.Unreadable = Int (negsuc 1)

abbrev pub why_of : Progress → Value
why_of (Waiting tries due) = Null
why_of (Held why) = cause_value why
why_of Done = Null
why_of Dropped = Null

-- the four cells of a row
abbrev pub cells : Progress → Row
cells p = Int (pos (state_of p)) ∷ Int (pos (tries_of p)) ∷ Int (pos (due_of p)) ∷ why_of p ∷ []

-- ---- journal: outcomes. NULL is a broken association, -1 stands for no presentation context, -2
-- for a data set that can't be read, all else is the response's status.

abbrev pub outcome_in : Value → Outcome
outcome_in Null = outcome.Broken
outcome_in (Int (pos status)) = outcome.Status status
outcome_in (Int (negsuc zero)) = outcome.NoContext
outcome_in (Int (negsuc (suc n))) = outcome.Unreadable
outcome_in (Real x) = outcome.Broken
outcome_in (Text t) = outcome.Broken
outcome_in (Blob b) = outcome.Broken

abbrev pub outcome_value : Outcome → Value
outcome_value (outcome.Status status) = Int (pos status)
outcome_value outcome.Broken = Null
outcome_value outcome.NoContext = Int (negsuc 0)
outcome_value outcome.Unreadable = Int (negsuc 1)
