-- Members of an object of JSON, behind another member.
use Rattle.std.specs.Prelude.{ℕ, ◌++◌, Bool, if◌then◌else◌, codes, decimal}
use Rattle.dr_base.specs.Texts.{Text}
use Rattle.dr_base_quoted.specs.Quoting.{quoted}

-- a member behind another: its name, then a number or a text
abbrev pub member : Text → Text → Text
member name value = codes ",\"" ++ name ++ codes "\":" ++ value

abbrev pub number : Text → ℕ → Text
number name value = member name (decimal value)

abbrev pub word : Text → Text → Text
word name value = member name (quoted value)

abbrev pub flag : Text → Bool → Text
flag name value = member name (if value then codes "true" else codes "false")
