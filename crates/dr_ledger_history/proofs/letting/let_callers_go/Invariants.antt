use Rattle.dr_ledger_history.proofs.Leaving.{HavePassed, left_from}
use Rattle.dr_ledger_history.proofs.letting.let_callers_go.Given as goal

-- the callers before that one have no arrival of the uid any more, and all others are untouched
abbrev pub invariant-callers : goal.invariant-callers
invariant-callers l = HavePassed l.uid l.from l.fn.arrivals l.arrivals

abbrev pub decreases-callers : goal.decreases-callers
decreases-callers l = left_from l.from l.arrivals
