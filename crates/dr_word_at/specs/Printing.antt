-- The lines that are printed of what a node answers.
use Rattle.std.specs.Prelude.{◌≡◌, ◌⊎◌, ℕ, List, [], ◌∷◌, codes, decimal, Some}
use Rattle.serde_json.specs.Data.{Data}
use Rattle.dr_base.specs.Texts.{Text}
use Rattle.dr_ledger_report.specs.Reports.{line_of}
use Rattle.dr_run_ask.specs.Lines.{number_at, text_at}
use Rattle.dr_word_list.specs.Summaries.{queue_line}

-- the line of the rows to a node says how many there are, and this is printed of it
abbrev pub ShowsQueue : Data → Text → Type 0
ShowsQueue value line =
    (dest : Text) × (waiting : ℕ) × (held : ℕ) × (done : ℕ)
    × (text_at (codes "dest") value ≡ Some dest)
    × (number_at (codes "waiting") value ≡ Some waiting)
    × (number_at (codes "held") value ≡ Some held)
    × (number_at (codes "done") value ≡ Some done)
    × (line ≡ queue_line dest waiting held done (number_at (codes "due") value))

-- a row that waits: how often it was tried, and from when on it is due; one that is held: why
abbrev pub IsWaiting : Data → List Text → Type 0
IsWaiting value fields =
    (tries : ℕ) × (due : ℕ)
    × (number_at (codes "tries") value ≡ Some tries)
    × (number_at (codes "due") value ≡ Some due)
    × (fields ≡ codes "waiting" ∷ decimal tries ∷ decimal due ∷ [])

abbrev pub IsHeld : Data → List Text → Type 0
IsHeld value fields =
    (cause : Text)
    × (text_at (codes "cause") value ≡ Some cause)
    × (fields ≡ codes "held" ∷ cause ∷ [])

-- how far a row is, as it is printed: what the line says, by its state
abbrev pub IsStage : Data → Text → List Text → Type 0
IsStage value state fields =
    ((state ≡ codes "waiting") × IsWaiting value fields)
    ⊎ ((state ≡ codes "held") × IsHeld value fields)
    ⊎ ((state ≡ codes "done") × (fields ≡ codes "done" ∷ []))
    ⊎ ((state ≡ codes "dropped") × (fields ≡ codes "dropped" ∷ []))

abbrev pub ShowsProgress : Data → List Text → Type 0
ShowsProgress value fields =
    (state : Text) × (text_at (codes "state") value ≡ Some state) × IsStage value state fields

-- the line of a row, and what is printed of it
abbrev pub ShowsRow : Data → Text → Type 0
ShowsRow value line =
    (uid : Text) × (dest : Text) × (fields : List Text)
    × (text_at (codes "uid") value ≡ Some uid)
    × (text_at (codes "dest") value ≡ Some dest)
    × ShowsProgress value fields
    × (line ≡ line_of (codes "row") (uid ∷ dest ∷ fields))
