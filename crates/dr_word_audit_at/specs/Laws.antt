-- Laws of journals that are cut.
use Rattle.std.specs.Prelude.{◌≡◌, ℕ, Bool, true, false, List, [], ◌∷◌, ◌++◌, length}
use Rattle.dr_base.specs.Texts.{Text}
use Rattle.dr_ledger.specs.declared.item.Instance.{Instance}
use Rattle.dr_ledger_history.specs.declared.line.JournalLine.{JournalLine}
use Rattle.dr_ledger_history.specs.declared.line.JournalLine.TheVariants as told
use Rattle.dr_world_audit.specs.declared.audit.NodeJournal.{NodeJournal}
use Rattle.dr_word_audit_at.specs.Cuts.{cut_at, mends}
use Rattle.dr_word_audit_at.specs.declared.cutting.MissingLine.TheVariants as missing

-- a journal begins with what it is cut to
abbrev pub CutsBegin : Type 0
CutsBegin =
    (n : ℕ) (node : NodeJournal)
    → (rest : List JournalLine) × (node.lines ≡ (cut_at n node).lines ++ rest)

-- cut at its end it is whole
abbrev pub TheWholeIsACut : Type 0
TheWholeIsACut = (node : NodeJournal) → cut_at (length node.lines) node ≡ node

-- a further arrival from there says that the instance came from there; a first one from elsewhere
-- that goes on to there says that it goes on; and what was forgotten says neither
abbrev pub MendingIsRight : Type 0
MendingIsRight =
    (from to : Text) (item : Instance) (keep : Bool)
    → (mends (missing.CameFrom item.uid from) (told.Repeat from item) ≡ true)
    × (mends (missing.GoesOn item.uid to) (told.Arrival from item (to ∷ []) keep) ≡ true)
    × (mends (missing.GoesOn item.uid to) (told.Arrival from item [] keep) ≡ false)
    × (mends (missing.CameFrom item.uid from) (told.Forgetting item.uid) ≡ false)
