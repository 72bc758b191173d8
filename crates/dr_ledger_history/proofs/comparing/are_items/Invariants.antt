-- are_items
use Rattle.std.proofs.Common.{◌≡◌, ◌↔◌}
use Rattle.dr_ledger_history.proofs.comparing.are_items.Given as goal

-- what is left is the same just where all is
abbrev pub invariant-loop-uid : goal.invariant-loop-uid
invariant-loop-uid l = (l.uid-iterator ≡ l.rest) ↔ (l.items.entries ≡ l.others.entries)
