use Rattle.dr_ledger_balance.proofs.Rising.{RisesTo}
use Rattle.dr_ledger_balance.proofs.orders.test_order.Given as goal

abbrev pub invariant-loop-i : goal.invariant-loop-i
invariant-loop-i g l = RisesTo g.S.Spelled.order l.pieces l.i
