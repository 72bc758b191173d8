-- Texts in quotes, as TOML and the language of Graphviz have them.
use Rattle.std.specs.Prelude.{ℕ, ◌==◌, [], ◌∷◌, ◌++◌, flat_map, if◌then◌else◌}
use Rattle.dr_base.specs.Texts.{Text}

-- a byte between quotes: a quote (34) and a backslash (92) stand behind a backslash
abbrev pub escaped_byte : ℕ → Text
escaped_byte byte =
    if byte == 34 then 92 ∷ 34 ∷ [] else (if byte == 92 then 92 ∷ 92 ∷ [] else byte ∷ [])

-- a text between quotes
abbrev pub escaped : Text → Text
escaped text = flat_map escaped_byte text

-- a text in quotes
abbrev pub in_quotes : Text → Text
in_quotes text = (34 ∷ []) ++ escaped text ++ (34 ∷ [])
