use Rattle.dr_word_rehearse.proofs.Visits.{over_at}
use Rattle.dr_word_rehearse.proofs.looking.look_again.Goals as goal

pub returns-in-Ok : goal.returns-in-Ok
returns-in-Ok g c = over_at g.O.Ledger.Ledger.site g.O.Ledger.Ledger.book g.O.Ledger.Ledger.stands (g.O.Ledgers.opens c.args.ledgers.now c.args.path.now) c.args.own.now c.args.own.now c.in-Ok.found c.look_over.result c.in-Ok.ensures c.look_over.ensures
