use Rattle.dr_word_rehearse.proofs.Visits.{at_node, unread_unseen}
use Rattle.dr_word_rehearse.proofs.looking.look_at.Goals as goal

pub returns-in-Ok-came : goal.returns-in-Ok-came
returns-in-Ok-came g c = at_node (g.O.Ledgers.opens c.args.ledgers.now) g.O.Ledger.Ledger.site g.O.Ledger.Ledger.book g.O.Ledger.Ledger.stands c.args.folder.now c.args.old.now c.args.next.now c.args.name.now c.in-Ok.parts.0 c.in-Ok.parts.1 c.in-Ok-came.look c.in-Ok.ensures.0 c.in-Ok.ensures.1 c.in-Ok-came.ensures

pub returns-in-Err-came : goal.returns-in-Err-came
returns-in-Err-came g c = unread_unseen c.args.old.now c.args.next.now c.args.name.now c.in-Err-came.halt c.in-Err-came.ensures

pub returns-in-Err : goal.returns-in-Err
returns-in-Err g c = c.in-Err.ensures
