use Rattle.dr_ledger_timed.proofs.Losing.{begun}
use Rattle.dr_ledger_timed.proofs.timed.TimedLedger.adopt.Goals as goal

pub returns-clause-loses_none : goal.returns-clause-loses_none
returns-clause-loses_none g c stands =
    let began = c.begin_line-began.new.self.ledger in
    let new = c.adopt-answer.new.self in
    begun (g.L.Ledger.book c.args.self.now.ledger) (g.L.Ledger.book began) (g.L.Ledger.book new)
    (g.L.Ledger.bodies c.args.self.now.ledger) (g.L.Ledger.bodies began) (g.L.Ledger.bodies new)
    c.begin_line-began.ensures.book c.begin_line-began.ensures.bodies (c.adopt-answer.ensures.loses_none stands)
