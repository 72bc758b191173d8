-- The text of a line, each of its pieces with what is behind it.
use Rattle.std.specs.Prelude.{ℕ, List, ◌∷◌, ◌++◌, Bool, Option, codes, decimal}
use Rattle.hex.specs.Hex.{encode_lower}
use Rattle.dr_base.specs.Syntaxes.{syntax_uid}
use Rattle.dr_base.specs.Texts.{Text}
use Rattle.dr_route.specs.declared.key.Key.{Key}
use Rattle.dr_ledger.specs.declared.item.Instance.{Instance}
use Rattle.dr_ledger.specs.declared.item.Outcome.{Outcome}
use Rattle.dr_ledger_history.specs.declared.line.JournalLine.{JournalLine}
use Rattle.dr_ledger_history.specs.declared.line.JournalLine.TheVariants as told
use Rattle.dr_ledger_text.specs.Lines.{kind_part, moment_part, names_text, outcome_text}
use Rattle.dr_ledger_text.specs.Members.{flag, number, word}
use Rattle.dr_ledger_read.specs.declared.kind.CallKind.{CallKind}
use Rattle.dr_ledger_read.specs.declared.kind.CallKind.TheVariants as kind

abbrev pub key_then : Key → Text → Text
key_then key x =
    word (codes "class") key.class ++ (word (codes "syntax") (syntax_uid key.syntax)
    ++ (word (codes "modality") key.modality ++ (word (codes "station") key.station ++ x)))

abbrev pub digest_then : List ℕ → Text → Text
digest_then digest x = word (codes "sha256") (encode_lower digest) ++ x

abbrev pub item_then : Instance → Text → Text
item_then item x =
    word (codes "uid") item.uid
    ++ key_then item.key (number (codes "length") item.size ++ digest_then item.digest x)

abbrev pub brought_then : Text → Instance → Text → Text
brought_then caller item x = word (codes "caller") caller ++ item_then item x

abbrev pub goals_then : List Text → Bool → Text → Text
goals_then to keep x = codes ",\"to\":[" ++ (names_text to ++ 93 ∷ (flag (codes "keep") keep ++ x))

abbrev pub row_then : Text → Text → Text → Text
row_then uid dest x = word (codes "uid") uid ++ (word (codes "dest") dest ++ x)

abbrev pub outcome_then : Outcome → Text → Text
outcome_then outcome x = word (codes "outcome") (outcome_text outcome) ++ x

abbrev pub moment_then : ℕ → Text → Text
moment_then now x = number (codes "moment") now ++ x

-- which call a line is of
abbrev pub kind_of : JournalLine → CallKind
kind_of (told.Arrival caller item to keep) = kind.Arrival
kind_of (told.Repeat caller item) = kind.Repeat
kind_of (told.Settling uid dest outcome now) = kind.Settling
kind_of (told.Requeuing uid dest) = kind.Requeuing
kind_of (told.Dropping uid dest now) = kind.Dropping
kind_of (told.Forgetting uid) = kind.Forgetting
kind_of told.Adoption = kind.Adoption

abbrev pub kind_text : CallKind → Text
kind_text kind.Arrival = kind_part (codes "arrival")
kind_text kind.Repeat = kind_part (codes "repeat")
kind_text kind.Settling = kind_part (codes "settling")
kind_text kind.Requeuing = kind_part (codes "requeuing")
kind_text kind.Dropping = kind_part (codes "dropping")
kind_text kind.Forgetting = kind_part (codes "forgetting")
kind_text kind.Adoption = kind_part (codes "adoption")

-- what a line says, behind its kind
abbrev pub said_then : JournalLine → Text → Text
said_then (told.Arrival caller item to keep) x = brought_then caller item (goals_then to keep x)
said_then (told.Repeat caller item) x = brought_then caller item x
said_then (told.Settling uid dest outcome now) x =
    row_then uid dest (outcome_then outcome (moment_then now x))
said_then (told.Requeuing uid dest) x = row_then uid dest x
said_then (told.Dropping uid dest now) x = row_then uid dest (moment_then now x)
said_then (told.Forgetting uid) x = word (codes "uid") uid ++ x
said_then told.Adoption x = x

abbrev pub line_then : JournalLine → Text → Text
line_then line x = kind_text (kind_of line) ++ said_then line x

-- the end of a text: the moment at which its line was written, where it is known, and a brace
abbrev pub ended : Option ℕ → Text
ended moment = moment_part moment ++ codes "}"

abbrev pub sealed_then : ℕ → JournalLine → Option ℕ → Text
sealed_then n line moment = codes "{\"line\":" ++ (decimal n ++ line_then line (ended moment))
