-- What a line of a journal says, as an object of JSON, and the text under which it is sealed.
use Rattle.std.specs.Prelude.{ℕ, ◌/◌, ◌%◌, ◌∷◌, ◌++◌, List, [], Bool, Option, None, Some}
use Rattle.std.specs.Prelude.{codes, decimal, flat_map}
use Rattle.hex.specs.Hex.{encode_lower, encode_upper}
use Rattle.dr_base.specs.Texts.{Text}
use Rattle.dr_base.specs.Syntaxes.{syntax_uid}
use Rattle.dr_base_quoted.specs.Quoting.{quoted}
use Rattle.dr_ledger.specs.declared.item.Instance.{Instance}
use Rattle.dr_ledger.specs.declared.item.Outcome.{Outcome}
use Rattle.dr_ledger.specs.declared.item.Outcome.TheVariants as outcome
use Rattle.dr_ledger_history.specs.declared.line.JournalLine.{JournalLine}
use Rattle.dr_ledger_history.specs.declared.line.JournalLine.TheVariants as told
use Rattle.dr_ledger_text.specs.Members.{flag, member, number, word}

-- names one behind the other
abbrev pub further_name : Text → Text
further_name name = codes "," ++ quoted name

abbrev pub names_text : List Text → Text
names_text [] = []
names_text (name ∷ names) = quoted name ++ flat_map further_name names

-- where a first arrival goes on to, and whether it is kept
abbrev pub goals_part : List Text → Bool → Text
goals_part to keep =
    member (codes "to") (codes "[" ++ names_text to ++ codes "]") ++ flag (codes "keep") keep

-- the instance that an arrival was of
abbrev pub key_part : Instance → Text
key_part item =
    word (codes "class") item.key.class ++ word (codes "syntax") (syntax_uid item.key.syntax)
    ++ word (codes "modality") item.key.modality ++ word (codes "station") item.key.station

abbrev pub content_part : Instance → Text
content_part item =
    number (codes "length") item.size ++ word (codes "sha256") (encode_lower item.digest)

abbrev pub item_part : Instance → Text
item_part item = word (codes "uid") item.uid ++ key_part item ++ content_part item

-- what came of a try: the status of the response in four hex digits, or why there was none
abbrev pub outcome_text : Outcome → Text
outcome_text (outcome.Status status) = encode_upper (status / 256 ∷ status % 256 ∷ [])
outcome_text outcome.Broken = codes "broken"
outcome_text outcome.NoContext = codes "no-context"
outcome_text outcome.Unreadable = codes "unreadable"

-- which call it is of, and of which row
abbrev pub kind_part : Text → Text
kind_part kind = word (codes "kind") kind

abbrev pub row_part : Text → Text → Text
row_part uid dest = word (codes "uid") uid ++ word (codes "dest") dest

-- an arrival, by whether it is the first
abbrev pub arrived_part : Text → Text → Instance → Text
arrived_part kind caller item =
    kind_part kind ++ word (codes "caller") caller ++ item_part item

-- what a line says, behind its number
abbrev pub line_part : JournalLine → Text
line_part (told.Arrival caller item to keep) =
    arrived_part (codes "arrival") caller item ++ goals_part to keep
line_part (told.Repeat caller item) = arrived_part (codes "repeat") caller item
line_part (told.Settling uid dest outcome now) =
    kind_part (codes "settling") ++ row_part uid dest
    ++ word (codes "outcome") (outcome_text outcome)
    ++ number (codes "moment") now
line_part (told.Requeuing uid dest) = kind_part (codes "requeuing") ++ row_part uid dest
line_part (told.Dropping uid dest now) =
    kind_part (codes "dropping") ++ row_part uid dest ++ number (codes "moment") now
line_part (told.Forgetting uid) = kind_part (codes "forgetting") ++ word (codes "uid") uid
line_part told.Adoption = kind_part (codes "adoption")

-- a line with its number, as an object without its end
abbrev pub begun_line : ℕ → JournalLine → Text
begun_line n line = codes "{\"line\":" ++ decimal n ++ line_part line

-- the moment (milliseconds) at which a line was written, where it is known
abbrev pub moment_part : Option ℕ → Text
moment_part None = []
moment_part (Some moment) = number (codes "at") moment

-- a line as it is sealed: with its number and its moment, and without an end of line
abbrev pub sealed_text : ℕ → JournalLine → Option ℕ → Text
sealed_text n line moment = begun_line n line ++ moment_part moment ++ codes "}"
