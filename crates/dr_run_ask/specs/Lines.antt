-- Lines of JSON that a node answers.
use Rattle.std.specs.Prelude.{◌≡◌, ℕ, Bool, ◌++◌}
use Rattle.std.specs.Prelude.{Option, Some, option_and_then}
use Rattle.serde_json.specs.Data.{Data}
use Rattle.serde_json.specs.Find.{as_bool, as_number, as_str, as_u64, get}
use Rattle.serde_json.specs.Read.{read}
use Rattle.dr_base.specs.Texts.{Text}

-- what the members of an object say
abbrev pub text_at : Text → Data → Option Text
text_at name value = option_and_then as_str (get name value)

abbrev pub number_at : Text → Data → Option ℕ
number_at name value = option_and_then as_u64 (option_and_then as_number (get name value))

abbrev pub flag_at : Text → Data → Option Bool
flag_at name value = option_and_then as_bool (get name value)

-- the text begins with a line that is this value
abbrev pub FirstLineIs : Text → Data → Type 0
FirstLineIs text value =
    (line : Text) × (rest : Text) × (text ≡ line ++ rest) × (read line ≡ Some value)
