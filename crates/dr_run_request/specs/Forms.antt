-- The fields of a form (application/x-www-form-urlencoded), in a body or behind a `?`.
use Rattle.std.specs.Prelude.{◌≡◌, ◌≤◌, ◌++◌, ℕ, List, [], ◌∷◌, bytes_eq, codes, decimal}
use Rattle.std.specs.Prelude.{Option, None, Some, option_map, if◌then◌else◌}
use Rattle.form_urlencoded.specs.Form.{decode, raw_pairs}
use Rattle.percent_encoding.specs.Percent.{percent_decode}
use Rattle.dr_base.specs.Numbers.{IsNumeral}
use Rattle.dr_base.specs.Texts.{Text}
use Rattle.dr_run_request.specs.declared.wanted.RowName.{RowName}
use Rattle.dr_ledger_views.specs.declared.stage.Stage.{Stage}
use Rattle.dr_ledger_views.specs.declared.stage.Stage.TheVariants.{Waiting, Held, Done, Dropped}
use Rattle.dr_run_request.specs.declared.lines.LinesWanted.{LinesWanted}
use Rattle.dr_run_request.specs.declared.wanted.Wanted.{Wanted}

-- the value of the first pair of that name
abbrev pub first_value : List (Text × Text) → Text → Option Text
first_value [] name = None
first_value (pair ∷ pairs) name =
    if bytes_eq pair.0 name then Some pair.1 else first_value pairs name

-- what the field of that name says; a second one of the name says nothing
abbrev pub value_in : Text → Text → Option Text
value_in form name = option_map decode (first_value (raw_pairs form) name)

-- the row that a form names
abbrev pub NamesRow : Text → RowName → Type 0
NamesRow form row =
    (value_in form (codes "uid") ≡ Some row.uid) × (value_in form (codes "dest") ≡ Some row.dest)

-- the word of a stage
abbrev pub word_of : Stage → Text
word_of Waiting = codes "waiting"
word_of Held = codes "held"
word_of Done = codes "done"
word_of Dropped = codes "dropped"

-- the stage that a word names; none where there is no word
abbrev pub StageOf : Option Text → Option Stage → Type 0
StageOf None stage = stage ≡ None
StageOf (Some word) stage = (one : Stage) × (stage ≡ Some one) × (word ≡ word_of one)

-- so many rows may be on a page
abbrev pub IsLimit : ℕ → Type 0
IsLimit limit = (1 ≤ limit) × (limit ≤ 1000)

-- how many rows a word asks for, as a number in decimal digits; a whole page where there is no word
abbrev pub LimitOf : Option Text → ℕ → Type 0
LimitOf None limit = limit ≡ 1000
LimitOf (Some word) limit = (word ≡ decimal limit) × IsLimit limit

-- the rows that a form asks for: to the node that it names, at the stage that it names, behind the
-- UID that it names, and as many as it names
abbrev pub Wants : Text → Wanted → Type 0
Wants form wanted =
    (value_in form (codes "dest") ≡ Some wanted.dest)
    × StageOf (value_in form (codes "state")) wanted.stage
    × (value_in form (codes "after") ≡ wanted.after)
    × LimitOf (value_in form (codes "limit")) wanted.limit

-- the number of a word in decimal digits, of 64 bits at most; 0 where there is no word
abbrev pub NumberOf : Option Text → ℕ → Type 0
NumberOf None number = number ≡ 0
NumberOf (Some word) number = IsNumeral 64 number word

-- the lines of a journal that a form asks for: behind the number that it names, and as many as it
-- names
abbrev pub WantsLines : Text → LinesWanted → Type 0
WantsLines form wanted =
    NumberOf (value_in form (codes "after")) wanted.after
    × LimitOf (value_in form (codes "limit")) wanted.limit

-- the instance that a path names, behind what stands before its UID
abbrev pub NamesInstance : Text → Text → Type 0
NamesInstance path uid =
    (written : Text) × (path ≡ codes "/instance/" ++ written) × (uid ≡ percent_decode written)
