use Rattle.std.proofs.Common.{length}
use Rattle.dr_ledger_balance.proofs.Bodies.{SoFar}
use Rattle.dr_ledger_balance.proofs.lists.cut_all.Given as goal

-- the text is those so far and what is left of it
abbrev pub invariant-loop-pieces : goal.invariant-loop-pieces
invariant-loop-pieces g l = SoFar g.S.Spelled.fits g.S.Spelled.spelled l.text l.pieces l.rest

abbrev pub decreases-loop-pieces : goal.decreases-loop-pieces
decreases-loop-pieces g l = length l.rest
