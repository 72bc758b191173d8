-- What telling lines comes to.
use Rattle.std.specs.Prelude.{Bool, true, false, List, Result, Ok, Err}
use Rattle.dr_site.specs.Parts.{Part}
use Rattle.dr_ledger.specs.Books.{Line, Arrival, Repeat, Settling, Requeuing, Dropping, Forgetting}
use Rattle.dr_ledger.specs.Books.{Adoption, Fold, empty_book}
use Rattle.dr_ledger.specs.Histories.{IsHistory, IsPast}
use Rattle.dr_ledger.specs.SiteRoutes.{site_routing}
use Rattle.dr_ledger_history.specs.declared.history.History.{History}
use Rattle.dr_ledger_history.specs.declared.line.HistoryFault.{HistoryFault}
use Rattle.dr_ledger_history.specs.declared.line.HistoryFault.TheVariants as fault
use Rattle.dr_ledger_history.specs.Contents.{content}
use Rattle.dr_ledger_history.specs.Told.{IsTold, IsToldSince}
use Rattle.dr_world_audit.specs.declared.trail.Trail.{Trail}
use Rattle.dr_world_audit.specs.Hops.{Notes}
use Rattle.dr_world_journals.specs.Hops.{came, done, went}

-- the line is an adoption
abbrev pub is_an_adoption : Line → Bool
is_an_adoption (Arrival caller item to keep) = false
is_an_adoption (Repeat caller item) = false
is_an_adoption (Settling uid dest outcome now) = false
is_an_adoption (Requeuing uid dest) = false
is_an_adoption (Dropping uid dest now) = false
is_an_adoption (Forgetting uid) = false
is_an_adoption Adoption = true

-- the lines are a history under whatever plans, and all of it was told; or they are none
abbrev pub TellsAll : List Line → Result History HistoryFault → Type 0
TellsAll lines (Ok h) = IsTold lines (content h.parts)
TellsAll lines (Err fault.NoCall) = IsPast lines empty_book → ⊥
TellsAll lines (Err fault.Memory) = Unit {0}

-- what the node's lines since the last adoption say is noted besides
abbrev pub NotesAll : Part → List Line → List Line → Trail → Trail → Type 0
NotesAll site past lines old new =
    Notes old (came site.name lines) (went (site_routing site) site.name lines)
    (done site.name (Fold past) lines) new

-- the lines are a history of the site's node after that past, all of it was told, and what it says
-- was noted; or they are none
abbrev pub TellsAllSince : Part → List Line → List Line → Trail → Trail
    → Result History HistoryFault
    → Type 0
TellsAllSince site past lines old new (Ok h) =
    IsToldSince (site_routing site) past lines (content h.parts) × NotesAll site past lines old new
TellsAllSince site past lines old new (Err fault.NoCall) =
    IsHistory (site_routing site) lines (Fold past) → ⊥
TellsAllSince site past lines old new (Err fault.Memory) = Unit {0}
