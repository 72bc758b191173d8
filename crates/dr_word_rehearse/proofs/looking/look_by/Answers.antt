use Rattle.dr_word_rehearse.proofs.Visits.{into_all, look_at_next}
use Rattle.dr_word_rehearse.proofs.looking.look_by.Goals as goal

pub returns-in-Ok : goal.returns-in-Ok
returns-in-Ok g c = into_all g.O.Ledger.Ledger.site g.O.Ledger.Ledger.book g.O.Ledger.Ledger.stands (g.O.Ledgers.opens c.args.ledgers.now c.args.path.now) c.args.site.now c.args.own.now c.args.next.now.plan c.args.name.now c.in-Ok.found c.look_into.result c.in-Ok.ensures c.look_into.ensures

pub returns-in-Ok-look_again : goal.returns-in-Ok-look_again
returns-in-Ok-look_again g c = look_at_next g.O.Ledger.Ledger.site g.O.Ledger.Ledger.book g.O.Ledger.Ledger.stands (g.O.Ledgers.opens c.args.ledgers.now c.args.path.now) c.args.site.now c.args.own.now c.args.next.now.plan c.args.name.now c.in-Ok-look_again.look c.in-Ok-look_again.ensures

pub returns-in-Err-look_again : goal.returns-in-Err-look_again
returns-in-Err-look_again g c = c.in-Err-look_again.ensures
