use Rattle.dr_ledger.specs.SiteRoutes.{site_routing}
use Rattle.dr_desk.proofs.Refusing.{arrivals_leave, droppings_leave, forgettings_leave, requeuings_leave, settlings_leave}
use Rattle.dr_desk.proofs.laws.refusals_leave_the_book.Goals as goal

pub returns-clause-arrive : goal.returns-clause-arrive
returns-clause-arrive g c = arrivals_leave g.L.Ledger.site g.L.Ledger.book g.L.Ledger.stands g.L.Ledger.failed g.B.Sharing.site g.B.Sharing.first (site_routing g.B.Sharing.site)

pub returns-clause-settle : goal.returns-clause-settle
returns-clause-settle g c = settlings_leave g.L.Ledger.site g.L.Ledger.book g.L.Ledger.stands g.L.Ledger.failed g.B.Sharing.site g.B.Sharing.first

pub returns-clause-requeue : goal.returns-clause-requeue
returns-clause-requeue g c = requeuings_leave g.L.Ledger.site g.L.Ledger.book g.L.Ledger.stands g.L.Ledger.failed g.B.Sharing.site g.B.Sharing.first

pub returns-clause-drop : goal.returns-clause-drop
returns-clause-drop g c = droppings_leave g.L.Ledger.site g.L.Ledger.book g.L.Ledger.stands g.L.Ledger.failed g.B.Sharing.site g.B.Sharing.first

pub returns-clause-forget : goal.returns-clause-forget
returns-clause-forget g c = forgettings_leave g.L.Ledger.site g.L.Ledger.book g.L.Ledger.stands g.L.Ledger.failed g.B.Sharing.site g.B.Sharing.first
