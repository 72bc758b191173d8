-- What a line of a page of a journal says: a value of JSON, which is an object.
use Rattle.std.specs.Prelude.{◌≡◌, ℕ, ◌+◌, ◌*◌, List, [], ◌∷◌, codes, Option, Some, Ok, option_map}
use Rattle.std.specs.Prelude.{option_and_then}
use Rattle.std.specs.Str.{chars}
use Rattle.hex.specs.Hex.{decode_of}
use Rattle.serde_json.specs.Data.{Data, Items, no_items, item}
use Rattle.serde_json.specs.Find.{as_array, as_str, get}
use Rattle.dr_base.specs.Syntaxes.{syntax_uid}
use Rattle.dr_base.specs.Texts.{Text}
use Rattle.dr_ledger.specs.declared.item.Instance.{Instance}
use Rattle.dr_ledger.specs.declared.item.Outcome.{Outcome}
use Rattle.dr_ledger.specs.declared.item.Outcome.TheVariants as outcome
use Rattle.dr_ledger_history.specs.declared.line.JournalLine.{JournalLine}
use Rattle.dr_ledger_history.specs.declared.line.JournalLine.TheVariants as told
use Rattle.dr_route.specs.declared.key.Key.{Key}
use Rattle.dr_run_ask.specs.Lines.{flag_at, number_at, text_at}

-- the bytes for which a member's characters stand: each is of the number of its byte
abbrev pub bytes_at : Text → Data → Option Text
bytes_at name value = option_map chars (text_at name value)

-- the member has two hexadecimal digits for each of these bytes
abbrev pub SaysDigits : Text → Data → List ℕ → Type 0
SaysDigits name value bytes =
    (digits : Text) × (text_at name value ≡ Some digits) × (decode_of digits ≡ Ok bytes)

-- the name that a value says
abbrev pub name_in : Data → Option Text
name_in value = option_map chars (as_str value)

-- the values of a list say these names, in their order
abbrev pub AreNames : Items → List Text → Type 0
AreNames no_items [] = Unit {0}
AreNames no_items (name ∷ names) = ⊥
AreNames (item value items) [] = ⊥
AreNames (item value items) (name ∷ names) =
    (name_in value ≡ Some name) × AreNames items names

-- the list that a member is
abbrev pub list_at : Text → Data → Option Items
list_at name value = option_and_then as_array (get name value)

-- where a first arrival goes on to
abbrev pub SaysGoals : Data → List Text → Type 0
SaysGoals value goals =
    (items : Items) × (list_at (codes "to") value ≡ Some items) × AreNames items goals

-- what rules read of an instance
pub record SaysKey (value : Data) (key : Key) : Type 0 where
  pub class : bytes_at (codes "class") value ≡ Some key.class
  pub syntax : text_at (codes "syntax") value ≡ Some (syntax_uid key.syntax)
  pub modality : bytes_at (codes "modality") value ≡ Some key.modality
  pub station : bytes_at (codes "station") value ≡ Some key.station

-- the instance that an arrival was of
pub record SaysInstance (value : Data) (instance : Instance) : Type 0 where
  pub uid : bytes_at (codes "uid") value ≡ Some instance.uid
  pub key : SaysKey value instance.key
  pub length : number_at (codes "length") value ≡ Some instance.size
  pub digest : SaysDigits (codes "sha256") value instance.digest

-- what came of a try: the status of the response in four digits, or why there was none
abbrev pub SaysOutcome : Data → Outcome → Type 0
SaysOutcome value (outcome.Status status) =
    (high low : ℕ)
    × SaysDigits (codes "outcome") value (high ∷ low ∷ [])
    × (status ≡ high * 256 + low)
SaysOutcome value outcome.Broken = text_at (codes "outcome") value ≡ Some (codes "broken")
SaysOutcome value outcome.NoContext = text_at (codes "outcome") value ≡ Some (codes "no-context")
SaysOutcome value outcome.Unreadable = text_at (codes "outcome") value ≡ Some (codes "unreadable")

-- a line of a call of that kind
abbrev pub SaysOf : Text → Data → JournalLine → Type 0
SaysOf kind value (told.Arrival caller instance to keep) =
    (kind ≡ codes "arrival")
    × (bytes_at (codes "caller") value ≡ Some caller)
    × SaysInstance value instance
    × SaysGoals value to
    × (flag_at (codes "keep") value ≡ Some keep)
SaysOf kind value (told.Repeat caller instance) =
    (kind ≡ codes "repeat")
    × (bytes_at (codes "caller") value ≡ Some caller)
    × SaysInstance value instance
SaysOf kind value (told.Settling uid dest outcome now) =
    (kind ≡ codes "settling")
    × (bytes_at (codes "uid") value ≡ Some uid)
    × (bytes_at (codes "dest") value ≡ Some dest)
    × SaysOutcome value outcome
    × (number_at (codes "moment") value ≡ Some now)
SaysOf kind value (told.Requeuing uid dest) =
    (kind ≡ codes "requeuing")
    × (bytes_at (codes "uid") value ≡ Some uid)
    × (bytes_at (codes "dest") value ≡ Some dest)
SaysOf kind value (told.Dropping uid dest now) =
    (kind ≡ codes "dropping")
    × (bytes_at (codes "uid") value ≡ Some uid)
    × (bytes_at (codes "dest") value ≡ Some dest)
    × (number_at (codes "moment") value ≡ Some now)
SaysOf kind value (told.Forgetting uid) =
    (kind ≡ codes "forgetting") × (bytes_at (codes "uid") value ≡ Some uid)
SaysOf kind value told.Adoption = kind ≡ codes "adoption"

-- the value says the line of that number
pub record SaysLine (value : Data) (number : ℕ) (line : JournalLine) : Type 0 where
  pub of : number_at (codes "line") value ≡ Some number
  pub kind : Text
  pub is_of : text_at (codes "kind") value ≡ Some kind
  pub says : SaysOf kind value line
