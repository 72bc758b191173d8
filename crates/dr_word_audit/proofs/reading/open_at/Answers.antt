use Rattle.std.proofs.Common.{◌∙◌}
use Rattle.dr_word_audit.proofs.Looks.{opened_at}
use Rattle.dr_word_audit.proofs.reading.open_at.Goals as goal

pub returns : goal.returns
returns g c = opened_at c.args.sealed.now c.args.name.now (g.O.Ledgers.opens c.args.ledgers.now) g.O.Ledger.Ledger.site g.O.Ledger.Ledger.book g.O.Ledger.Ledger.stands c.args.folder.now
    c.in-Ok.site c.as_str.result.now c.in-Ok.ensures (c.as_str.ensures.value ∙ c.in-Ok-path_of.ensures) c.ledger_of-came.result c.ledger_of-came.ensures
