-- are_rows
use Rattle.std.proofs.Common.{◌≡◌, ◌↔◌}
use Rattle.dr_ledger_history.proofs.comparing.are_rows.Given as goal

-- what is left is the same just where all is
abbrev pub invariant-loop-at : goal.invariant-loop-at
invariant-loop-at l = (l.at-iterator ≡ l.rest) ↔ (l.rows.entries ≡ l.list)
