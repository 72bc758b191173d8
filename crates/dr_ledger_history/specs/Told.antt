-- What has been told, and what telling one line more answers.
use Rattle.std.specs.Prelude.{◌≡◌, List, [], ◌∷◌, ◌++◌, Result, Ok, Err}
use Rattle.dr_ledger.specs.Books.{Line, Fold, empty_book}
use Rattle.dr_ledger.specs.Histories.{IsBeforeAdoption, IsHistory, IsPast}
use Rattle.dr_ledger.specs.Routings.{Routing}
use Rattle.dr_ledger_history.specs.Contents.{Content, content, content_of}
use Rattle.dr_ledger_history.specs.declared.history.History.{History}
use Rattle.dr_ledger_history.specs.declared.line.HistoryFault.{HistoryFault}
use Rattle.dr_ledger_history.specs.declared.line.HistoryFault.TheVariants as fault

-- The lines are a history from the empty book on, under whatever plans, and this is what they make.
pub record IsTold (lines : List Line) (c : Content) : Type 0 where
  pub past : IsPast lines empty_book
  pub fold : c ≡ content_of (Fold lines)

-- The lines up to the last adoption are a history under whatever plans, those since then are one
-- under the plan in force, and this is what all of them make.
pub record IsToldSince (routing : Routing) (past since : List Line) (c : Content) : Type 0 where
  pub before : IsBeforeAdoption past
  pub accepted : IsPast past empty_book
  pub history : IsHistory routing since (Fold past)
  pub fold : c ≡ content_of (Fold (past ++ since))

-- the answers to one line more: it goes on where the lines are a history with it, and only there
abbrev pub Tells : List Line → Line → Result History HistoryFault → Type 0
Tells lines line (Ok h) = IsTold (lines ++ line ∷ []) (content h.parts)
Tells lines line (Err fault.NoCall) = IsPast (lines ++ line ∷ []) empty_book → ⊥
Tells lines line (Err fault.Memory) = Unit {0}

-- the same since the last adoption
abbrev pub TellsSince : Routing → List Line → List Line → Line
    → Result History HistoryFault
    → Type 0
TellsSince routing past since line (Ok h) =
    IsToldSince routing past (since ++ line ∷ []) (content h.parts)
TellsSince routing past since line (Err fault.NoCall) =
    IsHistory routing (since ++ line ∷ []) (Fold past) → ⊥
TellsSince routing past since line (Err fault.Memory) = Unit {0}
