use Rattle.std.proofs.Common.{refl}
use Rattle.dr_desk.proofs.Carried.{adoptions_are_noted, adoptions_carry_over as carry_over}
use Rattle.dr_desk.proofs.Carried.{refusals_leave}
use Rattle.dr_desk.proofs.laws.adoptions_carry_over.Goals as goal

pub returns-clause-refused : goal.returns-clause-refused
returns-clause-refused g c = refusals_leave g.L.Ledger.site g.L.Ledger.book g.L.Ledger.bodies
    g.L.Ledger.stands g.L.Ledger.failed

pub returns-clause-accepted : goal.returns-clause-accepted
returns-clause-accepted g c =
    carry_over g.L.Ledger.site g.L.Ledger.book g.L.Ledger.bodies g.L.Ledger.stands g.L.Ledger.failed

pub returns-clause-noted : goal.returns-clause-noted
returns-clause-noted g c = adoptions_are_noted g.L.Ledger.site g.L.Ledger.book g.L.Ledger.bodies
    g.L.Ledger.stands g.L.Ledger.failed

pub returns-clause-two : goal.returns-clause-two
returns-clause-two g c = refl
