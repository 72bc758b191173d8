-- Laws of documents.
use Rattle.std.specs.Prelude.{◌≡◌, [], ◌∷◌, ◌++◌, codes}
use Rattle.dr_word_json.specs.Documents.{document}

-- figures: no line; a line of one part; two lines, the first of two parts; a part with a quote
abbrev pub DocumentFiguresAreRight : Type 0
DocumentFiguresAreRight =
    (document [] ≡ codes "[]" ++ (10 ∷ []))
    × (document (codes "yes" ++ (10 ∷ [])) ≡ codes "[[\"yes\"]]" ++ (10 ∷ []))
    × (document
    (codes "no" ++ (9 ∷ codes "DeadEnd") ++ (10 ∷ []) ++ codes "CT1" ++ (9 ∷ []) ++ (10 ∷ []))
    ≡ codes "[[\"no\",\"DeadEnd\"]," ++ (10 ∷ []) ++ codes "[\"CT1\",\"\"]]" ++ (10 ∷ []))
    × (document (codes "a\"b" ++ (10 ∷ [])) ≡ codes "[[\"a\\\"b\"]]" ++ (10 ∷ []))
