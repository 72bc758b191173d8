-- are_arrivals
use Rattle.std.proofs.Common.{◌≡◌, ◌↔◌}
use Rattle.dr_ledger_history.proofs.comparing.are_arrivals.Given as goal

-- what is left is the same just where all is
abbrev pub invariant-loop-arrival : goal.invariant-loop-arrival
invariant-loop-arrival l = (l.arrival-iterator ≡ l.rest) ↔ (l.arrivals.keys ≡ l.list)
