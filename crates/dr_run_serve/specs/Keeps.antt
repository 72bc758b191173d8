-- What the one who keeps a node does as it looks, and when it looks no more.
use Rattle.std.specs.Prelude.{◌≡◌, ◌≢◌, ◌⊎◌, [], ℕ, Bool, true, List, Option, Result}
use Rattle.dr_ledger.specs.Books.{Book, Line}
use Rattle.dr_ledger.specs.declared.fault.LedgerFault.{LedgerFault}
use Rattle.dr_ledger_history.specs.declared.line.JournalLine.{JournalLine}
use Rattle.dr_run_serve.specs.Stages.{IsNextStage, serves}
use Rattle.dr_run_serve.specs.Sweeps.{Sweeping, TurnsIf}
use Rattle.dr_run_serve.specs.declared.shutting.EndStage.{EndStage}
use Rattle.dr_run_serve.specs.declared.signal.News.{News}
use Rattle.dr_site.specs.Parts.{Part}

module _ {L : Type 0} (site_of : L → Part) (book : L → Book) (stands : L → Type 0)
    (failed : L → ℕ) (own : Part) (first : List Line) where
  -- One look, at a moment that the clock told: the stage of the node's end is the next one, and as
  -- long as the node serves what is over has a turn.
  abbrev pub KeepsOnce : (tells : ℕ → Result (List JournalLine) LedgerFault → Type 0)
      → (told : ℕ → Type 0) → Option ℕ → EndStage × Sweeping → ℕ → EndStage × Sweeping → Type 0
  KeepsOnce tells told after old now new =
      told now × IsNextStage old.0 now new.0
      × TurnsIf site_of book stands failed own first tells told after (serves new.0) old.1 new.1

-- When the one who keeps a node looks no more: it found the store shut; or it was told that neither
-- a worker nor a sender is left. It never looks where it was told that no worker began.
abbrev pub EndsKeeping : (NoWorkers : Type 0) → (IsShut : Bool → Type 0) → (Told : News → Type 0)
    → List ℕ → Type 0
EndsKeeping NoWorkers IsShut Told each =
    ((each ≡ []) × NoWorkers)
    ⊎ ((each ≢ [])
    × (IsShut true
    ⊎ ((news : News) × Told news × (news.over ≡ true) × (news.sent ≡ true))))
