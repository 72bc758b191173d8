-- What is printed where it doesn't hold: the node, the line of its journal, and what is missing.
use Rattle.std.specs.Prelude.{◌≡◌, ℕ, ◌+◌, Bool, true, false, ◌&&◌, cond, not, List, [], ◌∷◌, ◌++◌}
use Rattle.std.specs.Prelude.{codes, length, Contains, Option, None, Some}
use Rattle.std.specs.Str.{bytes_eq}
use Rattle.dr_base.specs.Texts.{Text, next_field}
use Rattle.dr_ledger.specs.declared.item.Instance.{Instance}
use Rattle.dr_ledger.specs.Books.{Line, Arrival, Repeat, Settling, Requeuing, Dropping}
use Rattle.dr_ledger.specs.Books.{Forgetting, Adoption}
use Rattle.dr_world_audit.specs.Sites.{is_fair, lines_at}
use Rattle.dr_world_audit.specs.declared.audit.Mismatch.{Mismatch}
use Rattle.dr_world_audit.specs.declared.audit.Mismatch.TheVariants as what
use Rattle.dr_world_audit.specs.declared.audit.NodeJournal.{NodeJournal}
use Rattle.dr_word_audit.specs.Figures.{is_taken}
use Rattle.dr_word_adopt.specs.Names.{is_among}
use Rattle.dr_ledger_report.specs.Reports.{number_field}

-- the line is of an arrival of the uid that goes on to there
abbrev pub goes_on : Text → Text → Line → Bool
goes_on uid to (Arrival caller item next keep) = bytes_eq item.uid uid && is_among next to
goes_on uid to (Repeat caller item) = false
goes_on uid to (Settling one dest outcome now) = false
goes_on uid to (Requeuing one dest) = false
goes_on uid to (Dropping one dest now) = false
goes_on uid to (Forgetting one) = false
goes_on uid to Adoption = false

-- the caller brought the item, and these are its name and the item's uid
abbrev pub is_brought : Text → Text → Text → Instance → Bool
is_brought uid from caller item = bytes_eq item.uid uid && bytes_eq caller from

-- by the line the uid arrived from there
abbrev pub came_from : Text → Text → Line → Bool
came_from uid from (Arrival caller item next keep) = is_brought uid from caller item
came_from uid from (Repeat caller item) = is_brought uid from caller item
came_from uid from (Settling one dest outcome now) = false
came_from uid from (Requeuing one dest) = false
came_from uid from (Dropping one dest now) = false
came_from uid from (Forgetting one) = false
came_from uid from Adoption = false

-- the line settles the row of the uid to there, by a success
abbrev pub was_taken : Text → Text → Line → Bool
was_taken uid to (Arrival caller item next keep) = false
was_taken uid to (Repeat caller item) = false
was_taken uid to (Settling one dest outcome now) =
    (bytes_eq one uid && bytes_eq dest to) && is_taken outcome
was_taken uid to (Requeuing one dest) = false
was_taken uid to (Dropping one dest now) = false
was_taken uid to (Forgetting one) = false
was_taken uid to Adoption = false

-- the same, by an outcome that isn't fair
abbrev pub was_unfair : Text → Text → Line → Bool
was_unfair uid to (Arrival caller item next keep) = false
was_unfair uid to (Repeat caller item) = false
was_unfair uid to (Settling one dest outcome now) =
    (bytes_eq one uid && bytes_eq dest to) && not (is_fair outcome)
was_unfair uid to (Requeuing one dest) = false
was_unfair uid to (Dropping one dest now) = false
was_unfair uid to (Forgetting one) = false
was_unfair uid to Adoption = false

-- the line is one of which the mismatch speaks
abbrev pub says : Mismatch → Line → Bool
says (what.NoHistory node) line = false
says (what.NoHop node uid to) line = goes_on uid to line
says (what.NotFair node uid to) line = was_unfair uid to line
says (what.NoArrival node uid to) line = was_taken uid to line
says (what.NoReason node uid from) line = came_from uid from line

-- the node of which it speaks
abbrev pub node_of : Mismatch → Text
node_of (what.NoHistory node) = node
node_of (what.NoHop node uid to) = node
node_of (what.NotFair node uid to) = node
node_of (what.NoArrival node uid to) = node
node_of (what.NoReason node uid from) = node

-- the lines of the node of that name
abbrev pub lines_named : Text → List NodeJournal → List Line
lines_named name [] = []
lines_named name (node ∷ nodes) =
    cond (bytes_eq node.name name) (lines_at node) (lines_named name nodes)

-- none of these lines is such
abbrev pub HasNone : (Line → Bool) → List Line → Type 0
HasNone test lines = (line : Line) → Contains lines line → test line ≡ false

-- the number of the last such line, from 1; or there is none
abbrev pub IsLast : (Line → Bool) → List Line → Option ℕ → Type 0
IsLast test lines None = HasNone test lines
IsLast test lines (Some number) =
    (before later : List Line) × (line : Line)
    × (lines ≡ before ++ line ∷ later)
    × (number ≡ length before + 1)
    × (test line ≡ true)
    × HasNone test later

-- how such a line begins
abbrev pub line_start : Text → Text → Text
line_start code node = codes "no" ++ next_field code ++ next_field node

-- that it doesn't hold at the node
abbrev pub short_line : Text → Text → Text
short_line code node = line_start code node ++ (10 ∷ [])

-- the same, with the number of a line, a uid, and the node to which it went or from which it came
abbrev pub long_line : Text → Text → Option ℕ → Text → Text → Text
long_line code node number uid other =
    line_start code node ++ next_field (number_field number) ++ next_field uid ++ next_field other
    ++ (10 ∷ [])

-- the line of a node that has no ledger
abbrev pub missing_line : Text → Text
missing_line node = short_line (codes "A1 NoFile") node

-- the line of a mismatch
abbrev pub no_line : Mismatch → Option ℕ → Text
no_line (what.NoHistory node) number = short_line (codes "A2 NoHistory") node
no_line (what.NoHop node uid to) number = long_line (codes "A3 NoHop") node number uid to
no_line (what.NotFair node uid to) number = long_line (codes "A4 NotFair") node number uid to
no_line (what.NoArrival node uid to) number = long_line (codes "A5 NoArrival") node number uid to
no_line (what.NoReason node uid from) number =
    long_line (codes "A6 NoReason") node number uid from
