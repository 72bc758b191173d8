-- Laws of texts between quotes.
use Rattle.std.specs.Prelude.{◌≡◌, [], ◌∷◌, ◌++◌, codes}
use Rattle.dr_base_quoted.specs.Escaping.{in_quotes}
use Rattle.dr_base_quoted.specs.Quoting.{quoted}

-- figures: no byte; plain ones; a quote and a backslash; a line feed, a tab and a byte above 127
abbrev pub QuotedFiguresAreRight : Type 0
QuotedFiguresAreRight =
    (quoted [] ≡ codes "\"\"")
    × (quoted (codes "1.2 CT~") ≡ codes "\"1.2 CT~\"")
    × (quoted (codes "a\"b\\") ≡ codes "\"a\\\"b\\\\\"")
    × (quoted (10 ∷ 9 ∷ 200 ∷ []) ≡ codes "\"\\n\\u0009\\u00c8\"")

-- figures of the other form: no byte; a quote and a backslash; a tab stays
abbrev pub EscapesAreRight : Type 0
EscapesAreRight =
    (in_quotes [] ≡ codes "\"\"")
    × (in_quotes (codes "a\"b\\") ≡ codes "\"a\\\"b\\\\\"")
    × (in_quotes (9 ∷ []) ≡ 34 ∷ 9 ∷ 34 ∷ [])
