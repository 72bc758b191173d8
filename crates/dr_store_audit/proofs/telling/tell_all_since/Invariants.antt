use Rattle.std.proofs.Common.{List, take, ◌++◌}
use Rattle.dr_ledger.specs.Books.{Line}
use Rattle.dr_ledger.specs.SiteRoutes.{site_routing}
use Rattle.dr_ledger_history.specs.Contents.{content}
use Rattle.dr_ledger_history.specs.Told.{IsToldSince}
use Rattle.dr_store_audit.specs.Journal.{lines_told}
use Rattle.dr_store_audit.proofs.telling.tell_all_since.Given as goal

abbrev pub invariant-loop-entry : goal.invariant-loop-entry
invariant-loop-entry l = (past earlier : List Line) → IsToldSince (site_routing l.site) past earlier (content l.fn.begun.parts)
    → IsToldSince (site_routing l.site) past (earlier ++ lines_told l.goals (take l.entry-index l.notes)) (content l.history.parts)
