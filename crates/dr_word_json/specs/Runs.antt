-- An answer that is printed as JSON.
use Rattle.std.specs.Prelude.{ℕ, List, [], Option, Some}
use Rattle.std.specs.Io.KnownBytes.{Appends}
use Rattle.dr_base.specs.Texts.{Text}
use Rattle.dr_run_open.specs.declared.status.Status.{Status}
use Rattle.dr_word_json.specs.Documents.{document}

-- what the word would print to an empty output is printed as a document, and the program ends with
-- the word's status
abbrev pub IsAsJson : (Option (List ℕ) → Option (List ℕ) → Status → Type 0)
    → Option (List ℕ) → Option (List ℕ) → Status → Type 0
IsAsJson Ends old new status =
    (lines : Text) × Ends (Some []) (Some lines) status × Appends old new (document lines)
