-- The report of a node: what its book has, a line each, its fields joined by tabs.
use Rattle.std.specs.Prelude.{◌≡◌, ℕ, ◌/◌, ◌%◌, List, [], ◌∷◌, ◌++◌, flat_map, length, codes}
use Rattle.std.specs.Prelude.{decimal, Option, None, Some}
use Rattle.std.specs.FinMap as map
use Rattle.hex.specs.Hex.{encode_upper}
use Rattle.dr_base.specs.Texts.{Text, next_field}
use Rattle.dr_ledger.specs.Books.{Book}
use Rattle.dr_ledger.specs.Pairs.{Pair, pair_cmp}
use Rattle.dr_ledger.specs.Replies.{AreKept, Lists}
use Rattle.dr_ledger.specs.declared.item.Cause.{Cause}
use Rattle.dr_ledger.specs.declared.item.Cause.TheVariants as cause
use Rattle.dr_ledger.specs.declared.item.Progress.{Progress}
use Rattle.dr_ledger.specs.declared.item.Progress.TheVariants.{Waiting, Held, Done, Dropped}

-- a number, such as a moment in milliseconds, and a hyphen where there is none
abbrev pub number_field : Option ℕ → Text
number_field None = codes "-"
number_field (Some number) = decimal number

-- a line: its word, its fields and the LF that ends it
abbrev pub line_of : Text → List Text → Text
line_of word fields = word ++ flat_map next_field fields ++ (10 ∷ [])

-- why a row is held: the status of the response in four hex digits, or that the association had no
-- presentation context
abbrev pub cause_field : Cause → Text
cause_field (cause.Status status) = encode_upper (status / 256 ∷ status % 256 ∷ [])
cause_field cause.NoContext = codes "no-context"
cause_field cause.Unreadable = codes "unreadable"

-- how far a row is: done; dropped; waiting, how often it was tried, and the moment from which on it
-- is due; or held, and why
abbrev pub progress_fields : Progress → List Text
progress_fields (Waiting tries due) = codes "waiting" ∷ decimal tries ∷ decimal due ∷ []
progress_fields (Held why) = codes "held" ∷ cause_field why ∷ []
progress_fields Done = codes "done" ∷ []
progress_fields Dropped = codes "dropped" ∷ []

-- the line of an arrival: from whom which instance came
abbrev pub arrival_line : Pair → Text
arrival_line arrival = line_of (codes "arrival") (arrival.0 ∷ arrival.1 ∷ [])

-- the line of a kept instance, with the length of its data set in bytes
abbrev pub kept_line : Text × ℕ → Text
kept_line kept = line_of (codes "kept") (kept.0 ∷ decimal kept.1 ∷ [])

-- the line of a row: which instance, where to, and how far it is
abbrev pub row_line : Pair × Progress → Text
row_line row = line_of (codes "row") (row.0.0 ∷ row.0.1 ∷ progress_fields row.1)

-- the line that names the node of the lines behind it
abbrev pub name_line : Text → Text
name_line name = line_of (codes "node") (name ∷ [])

-- the lines of a node: arrivals, kept instances, rows, and how many lines its journal has
abbrev pub report_of : List Pair → List (Text × ℕ) → List (Pair × Progress) → ℕ → Text
report_of arrivals kept rows lines =
    flat_map arrival_line arrivals ++ flat_map kept_line kept ++ flat_map row_line rows
    ++ line_of (codes "lines") (decimal lines ∷ [])

-- The text is the report of the node of this name with this book: arrivals by caller, then uid;
-- kept instances by uid; rows by uid, then destination.
abbrev pub IsReportOf : Text → Book → Text → Type 0
IsReportOf name book text = (arrivals : List Pair) × (kept : List (Text × ℕ))
    × Lists pair_cmp book.arrivals arrivals × AreKept book kept
    × (text ≡ name_line name ++ report_of arrivals kept (map.entries book.rows) (length book.lines))
