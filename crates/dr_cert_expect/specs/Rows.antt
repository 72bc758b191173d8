-- The line that is printed of a row that doesn't hold: fields joined by one tab, ended by an LF.
use Rattle.std.specs.Prelude.{ℕ, List, [], ◌∷◌, ◌++◌, ◌==◌, if◌then◌else◌, codes, decimal, map}
use Rattle.dr_base.specs.Texts.{Text}
use Rattle.dr_base.specs.Syntaxes.{syntax_uid}
use Rattle.dr_cert_expect.specs.declared.answer.Case.{Case}
use Rattle.dr_cert_expect.specs.declared.answer.Lack.{Lack}
use Rattle.dr_cert_expect.specs.declared.answer.Lack.TheVariants.{Nothing, Keep, Never}
use Rattle.dr_cert_expect.specs.declared.answer.Miss.{Miss}

-- a byte as it is shown: 128, which stands for what a plan doesn't name, as an asterisk
abbrev pub shown_byte : ℕ → ℕ
shown_byte byte = if byte == 128 then 42 else byte

-- a value as it is shown
abbrev pub shown : Text → Text
shown value = map shown_byte value

-- the node where a key enters, and its class, transfer syntax, modality and station
abbrev pub case_fields : Case → Text
case_fields case =
    (9 ∷ case.site) ++ (9 ∷ case.key.class) ++ (9 ∷ syntax_uid case.key.syntax)
    ++ (9 ∷ shown case.key.modality) ++ (9 ∷ shown case.key.station)

-- what is lacking, and the key that shows it
abbrev pub lack_fields : Lack → Text
lack_fields Nothing = 9 ∷ codes "nothing"
lack_fields (Keep name case) = (9 ∷ codes "keep ") ++ name ++ case_fields case
lack_fields (Never name case) = (9 ∷ codes "never ") ++ name ++ case_fields case

-- `no`, the number of the row, and what it lacks
abbrev pub miss_line : Miss → Text
miss_line miss = codes "no" ++ (9 ∷ decimal miss.row) ++ lack_fields miss.lack ++ (10 ∷ [])
