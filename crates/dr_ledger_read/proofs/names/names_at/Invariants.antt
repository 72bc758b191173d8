use Rattle.std.proofs.Common.{length}
use Rattle.dr_ledger_read.proofs.Listed.{SoFar}
use Rattle.dr_ledger_read.proofs.names.names_at.Given as goal

abbrev pub invariant-loop-name : goal.invariant-loop-name
invariant-loop-name l = SoFar l.place l.names l.rest

abbrev pub decreases-loop-name : goal.decreases-loop-name
decreases-loop-name l = length l.rest
