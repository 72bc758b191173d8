use Rattle.std.proofs.Common.{◌∙◌, [], arith, sym}
use Rattle.std.proofs.lemmas.List.{take_all}
use Rattle.dr_word_audit.proofs.Looks.{stopped_at}
use Rattle.dr_word_audit.proofs.SeenAll.{none_seen, one_missing, one_seen}
use Rattle.dr_word_audit.proofs.reading.gather.Goals as goal

pub loop-name-init : goal.loop-name-init
loop-name-init g c = none_seen (g.O.Ledgers.opens c.args.ledgers.now) g.O.Ledger.Ledger.site g.O.Ledger.Ledger.book g.O.Ledger.Ledger.stands c.args.folder.now c.args.sealed.now c.args.others.now
    [] c.new-2.result.items c.new-3.result.items c.new-2.ensures.items c.new-3.ensures.items

pub loop-name-preserved : goal.loop-name-preserved
loop-name-preserved g c = one_seen (g.O.Ledgers.opens c.args.ledgers.now) g.O.Ledger.Ledger.site g.O.Ledger.Ledger.book g.O.Ledger.Ledger.stands c.args.folder.now c.args.sealed.now c.args.others.now
    c.args.names.now c.loop-name.name-index c.name-item.result c.loop-name.all.journals.items c.add.new.all.journals.items c.in-Ok.seen.shown.journal c.loop-name.all.told.items c.add.new.all.told.items
    c.in-Ok.seen.shown.line c.loop-name-test.true c.name-item.is c.loop-name.invariant c.in-Ok.ensures.0 c.in-Ok.ensures.1 c.in_ok-add-in-Ok.ensures.0 c.in_ok-add-in-Ok.ensures.1

pub returns-in-Err : goal.returns-in-Err
returns-in-Err g c = stopped_at c.args.sealed.now c.name-item.result (g.O.Ledgers.opens c.args.ledgers.now) g.O.Ledger.Ledger.site g.O.Ledger.Ledger.book g.O.Ledger.Ledger.stands c.args.folder.now
    c.args.others.now c.args.names.now (c.loop-name.name-index, c.loop-name-test.true, sym c.name-item.is)
    (one_missing (g.O.Ledgers.opens c.args.ledgers.now) g.O.Ledger.Ledger.site g.O.Ledger.Ledger.book g.O.Ledger.Ledger.stands c.args.folder.now c.args.sealed.now c.args.others.now c.args.names.now c.loop-name.name-index
    c.name-item.result c.loop-name.all.journals.items c.loop-name.all.told.items c.loop-name-test.true c.name-item.is c.loop-name.invariant) c.in-Err.halt c.in-Err.ensures c.stop_at.result c.stop_at.ensures

pub returns : goal.returns
returns g c = (c.loop-name.invariant.0 ∙ take_all c.loop-name.name-index c.args.names.now (omega (arith, c.loop-name-test.false)), c.loop-name.invariant.1)
