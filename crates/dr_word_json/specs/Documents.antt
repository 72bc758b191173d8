-- Lines of parts, as one document of JSON.
use Rattle.std.specs.Prelude.{ℕ, ◌==◌, if◌then◌else◌, [], ◌∷◌, ◌++◌, codes, flat_map, length, take}
use Rattle.dr_base.specs.Texts.{Text}
use Rattle.dr_base_quoted.specs.Quoting.{quoted_byte}

-- what a byte of a text of lines is in the document: a tab ends a part and begins the next one, a
-- line feed ends a line and begins the next one, and all else stands between quotes
abbrev pub part_of : ℕ → Text
part_of b =
    if b == 9 then codes "\",\""
    else (if b == 10 then codes "\"]," ++ (10 ∷ []) ++ codes "[\"" else quoted_byte b)

-- the document of a text of lines, each of which a line feed ends; of none it is an empty list
abbrev pub document : Text → Text
document [] = codes "[]" ++ (10 ∷ [])
document (b ∷ bs) =
    codes "[[\"" ++ flat_map part_of (take (length bs) (b ∷ bs)) ++ codes "\"]]" ++ (10 ∷ [])
