use Rattle.std.proofs.Common.{Option, subst}
use Rattle.sqlite.specs.Held.{state}
use Rattle.dr_base.specs.Texts.{Text}
use Rattle.dr_ledger.specs.Bodies.{HasAll}
use Rattle.dr_store_shelf.specs.Either.{read_on}
use Rattle.dr_store.specs.Reading.{FindsUnreadable}
use Rattle.dr_router.proofs.looking.read_all.Goals as goal

pub returns-in-Ok-None-clause-reads : goal.returns-in-Ok-None-clause-reads
returns-in-Ok-None-clause-reads g c clean safe =
    let base = (state g.S.Store c.args.ledger.now.conn).committed.trees in
    subst (λ (found : Option Text). FindsUnreadable HasAll (read_on c.args.ledger.now.shelf.0) base found) c.in-Ok-None.field-0-is (c.in-Ok-None.ensures.reply (clean, tt) safe)
