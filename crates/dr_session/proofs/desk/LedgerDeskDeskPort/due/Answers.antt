use Rattle.dr_ledger.specs.SiteRoutes.{site_routing}
use Rattle.dr_session.proofs.Handing.{reads_firsts}
use Rattle.dr_session.proofs.desk.LedgerDeskDeskPort.due.Goals as goal

pub returns : goal.returns
returns g c = (
  c.due.ensures.stood,
  c.due.ensures.site,
  λ stands. (
    reads_firsts (site_routing (g.L.Ledger.site c.args.self.now.ledger)) (g.L.Ledger.book c.args.self.now.ledger) (g.L.Ledger.journalled c.args.self.now.ledger (c.due.ensures.stood stands))
        c.args.dest.now c.args.now c.due.result (c.due.ensures.reply stands),
    (c.due.ensures.same stands).0,
    c.due.ensures.armed,
  ),
  λ stands. (c.due.ensures.same stands).1,
  λ stands. tt,
  c.due.ensures.counts,
  c.due.ensures.lasts,
)
