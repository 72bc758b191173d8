-- Byte texts, as contracts see them.
use Rattle.std.specs.Prelude.{◌≡◌, ℕ, List, ◌∷◌, ◌++◌}
use Rattle.std.specs.declared.cmp.Ordering.{Ordering}
use Rattle.std.specs.Ordering.{nat_cmp}
use Rattle.std.specs.Cmp.Lexicographic.{slice_cmp}
use Rattle.std.specs.List.Sorted.{IsStrictlySortedBy}

-- a text, such as a title or a UID, as the list of its bytes
abbrev pub Text : Type 0
Text = List ℕ

-- byte order: texts are compared byte by byte, and a text comes before each longer one that it
-- begins
abbrev pub text_cmp : Text → Text → Ordering
text_cmp = slice_cmp nat_cmp

-- the texts stand in byte order, each of them once
abbrev pub IsInByteOrder : List Text → Type 0
IsInByteOrder texts = IsStrictlySortedBy text_cmp texts

-- the text begins with the prefix: each text begins with itself, and with the empty text
abbrev pub Begins : Text → Text → Type 0
Begins prefix text = (rest : Text) × (text ≡ prefix ++ rest)

-- a field behind the one before it, in a line whose fields are parted by tabs (9)
abbrev pub next_field : Text → Text
next_field field = 9 ∷ field
