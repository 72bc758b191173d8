-- How a report begins.
use Rattle.std.specs.Prelude.{◌≡◌, ◌++◌, ◌∷◌, [], codes, take}
use Rattle.dr_base.specs.Texts.{Text}

-- the first word of a report's first line, and the tab (9) behind it
abbrev pub report_head : Text
report_head = codes "node" ++ (9 ∷ [])

-- The text begins as a report does: its first five bytes are a report's; one that is shorter is a
-- beginning of them.
abbrev pub BeginsAsReport : Text → Type 0
BeginsAsReport text = (rest : Text) × (report_head ≡ take 5 text ++ rest)
