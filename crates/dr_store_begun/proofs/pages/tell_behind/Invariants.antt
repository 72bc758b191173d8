use Rattle.std.proofs.Common.{◌≡◌, ◌-◌, ◌≤◌, take}
use Rattle.dr_ledger_history.specs.Contents.{content}
use Rattle.dr_ledger_history.specs.Told.{IsTold}
use Rattle.dr_store_begun.specs.Beginning.{IsOnlyRead, lines_in}
use Rattle.dr_store_begun.proofs.pages.tell_behind.Given as goal

-- what is told so far
abbrev pub invariant-loop-after : goal.invariant-loop-after
invariant-loop-after g l =
    IsOnlyRead g.P.LedgerPast l.initial.past l.past
    × (l.count ≡ (g.P.LedgerPast.reach l.initial.past).count)
    × (l.fn.first ≤ l.after)
    × (g.P.LedgerPast.is_clean l.past
    → IsTold (take l.fn.first (lines_in g.P.LedgerPast l.initial.past)) (content l.fn.begun.parts)
    → IsTold (take l.after (lines_in g.P.LedgerPast l.initial.past)) (content l.told.parts))

abbrev pub decreases-loop-after : goal.decreases-loop-after
decreases-loop-after g l = l.count - l.after
