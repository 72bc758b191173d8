use Rattle.dr_word_audit.proofs.Looks.{looked}
use Rattle.dr_word_audit.proofs.reading.look_at.Goals as goal

pub returns-in-Ok-see : goal.returns-in-Ok-see
returns-in-Ok-see g c = looked c.args.sealed.now c.args.name.now (g.O.Ledgers.opens c.args.ledgers.now) g.O.Ledger.Ledger.site g.O.Ledger.Ledger.book g.O.Ledger.Ledger.stands c.args.folder.now c.args.others.now
    c.in-Ok.ledger c.in-Ok.ensures c.in-Ok-see.seen c.in-Ok-see.ensures
