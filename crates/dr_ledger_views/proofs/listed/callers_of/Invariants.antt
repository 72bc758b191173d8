use Rattle.std.proofs.Common.{◌≡◌, take}
use Rattle.dr_ledger_views.specs.Views.{callers_among}
use Rattle.dr_ledger_views.proofs.listed.callers_of.Given as goal

abbrev pub invariant-loop-arrival : goal.invariant-loop-arrival
invariant-loop-arrival l = l.callers ≡ callers_among (take l.arrival-index l.fn.arrivals) l.fn.uid
