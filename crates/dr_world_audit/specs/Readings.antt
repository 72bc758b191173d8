-- A journal that is read to its end, or why it isn't.
use Rattle.std.specs.Prelude.{List, Contains, Result, Ok, Err}
use Rattle.dr_plan_model.specs.Networks.{Network}
use Rattle.dr_site.specs.Parts.{Part}
use Rattle.dr_ledger.specs.Books.{Line, Fold, empty_book}
use Rattle.dr_ledger.specs.Histories.{IsPast, IsSince}
use Rattle.dr_ledger.specs.Pairs.{Pair}
use Rattle.dr_ledger.specs.SiteRoutes.{site_routing}
use Rattle.dr_world_audit.specs.declared.fault.JournalFault.{JournalFault}
use Rattle.dr_world_audit.specs.declared.fault.JournalFault.TheVariants as fault
use Rattle.dr_world_audit.specs.declared.trail.Trail.{Trail}
use Rattle.dr_world_audit.specs.Hops.{Notes}
use Rattle.dr_world_audit.specs.Standing.{FitsAt, UnfitAt}
use Rattle.dr_world_journals.specs.Hops.{came_to, done_at, goals, sent_from}
use Rattle.dr_world_journals.specs.Journals.{until_adoption}

-- the lines are the journal of a book of the site's node
abbrev pub IsJournal : Part → List Line → Type 0
IsJournal site lines = IsSince (site_routing site) (until_adoption lines) (Fold lines)

-- the journal was read: it is one of the site's node, the plan goes on with all that was carried
-- over, and what it says is noted besides
pub record IsRead (plan : Network) (site : Part) (lines : List Line)
    (old new : Trail) : Type 0 where
  pub own : IsJournal site lines
  pub fit : (at : Pair) → Contains (goals (until_adoption lines)) at
      → FitsAt plan site.name (Fold (until_adoption lines)) at
  pub notes : Notes old (came_to site.name lines)
      (sent_from (site_routing site) site.name lines) (done_at site.name lines) new

-- the journal was read, or it is none of the site's node, or the plan doesn't go on with a row
abbrev pub Reads : Network → Part → List Line → Trail → Trail
    → Result (Unit {0}) JournalFault
    → Type 0
Reads plan site lines old new (Ok done) = IsRead plan site lines old new
Reads plan site lines old new (Err fault.NoCall) = IsJournal site lines → ⊥
Reads plan site lines old new (Err (fault.Unfit uid to)) =
    IsPast (until_adoption lines) empty_book
    × UnfitAt plan site.name (Fold (until_adoption lines)) (uid, to)
Reads plan site lines old new (Err fault.Memory) = Unit {0}
