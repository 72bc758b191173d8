use Rattle.dr_desk.proofs.Carried.{no_node_first, taken_are_fit, unfit_rows_are_one}
use Rattle.dr_desk.proofs.laws.plans_are_answered_in_order.Goals as goal

pub returns-clause-no_node : goal.returns-clause-no_node
returns-clause-no_node g c = no_node_first g.L.Ledger.site g.L.Ledger.book g.L.Ledger.bodies
    g.L.Ledger.stands g.L.Ledger.failed

pub returns-clause-fit : goal.returns-clause-fit
returns-clause-fit g c = taken_are_fit g.L.Ledger.site g.L.Ledger.book g.L.Ledger.bodies
    g.L.Ledger.stands g.L.Ledger.failed

pub returns-clause-unfit : goal.returns-clause-unfit
returns-clause-unfit g c = unfit_rows_are_one g.L.Ledger.site g.L.Ledger.book g.L.Ledger.bodies
    g.L.Ledger.stands g.L.Ledger.failed
