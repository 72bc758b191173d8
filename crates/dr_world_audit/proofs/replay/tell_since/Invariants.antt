use Rattle.std.proofs.Common.{List, [], take}
use Rattle.std.specs.Prelude.{map as mapped}
use Rattle.dr_ledger.specs.Books.{Line}
use Rattle.dr_ledger.specs.SiteRoutes.{site_routing}
use Rattle.dr_ledger_history.specs.Contents.{content}
use Rattle.dr_ledger_history.specs.Lines.{line_of}
use Rattle.dr_ledger_history.specs.Told.{IsToldSince}
use Rattle.dr_world_audit.specs.Replays.{NotesAll}
use Rattle.dr_world_audit.proofs.replay.tell_since.Given as goal

abbrev pub invariant-loop-line : goal.invariant-loop-line
invariant-loop-line l = (past : List Line) → IsToldSince (site_routing l.site) past [] (content l.fn.told.parts)
    → IsToldSince (site_routing l.site) past (mapped line_of (take l.line-index l.lines)) (content l.history.parts)
    × NotesAll l.site past (mapped line_of (take l.line-index l.lines)) l.fn.trail l.trail
