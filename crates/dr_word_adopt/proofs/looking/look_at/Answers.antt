use Rattle.std.proofs.Common.{inl, refl}
use Rattle.dr_word_adopt.specs.Beginnings.{OpensThere}
use Rattle.dr_word_adopt.proofs.Changed.{looked_at}
use Rattle.dr_word_adopt.proofs.looking.look_at.Goals as goal

pub returns-in-Ok : goal.returns-in-Ok
returns-in-Ok g c = looked_at (OpensThere (g.O.Ledgers.opens c.args.ledgers.now) (g.O.ShowsFiles.shows c.args.ledgers.now)) g.O.Ledger.Ledger.site g.O.Ledger.Ledger.book g.O.Ledger.Ledger.stands c.args.folder.now c.args.old.now c.args.next.now c.args.name.now
    c.in-Ok.standing c.args.all.now.items c.look_and_add.new.all.items c.look_and_add.result c.in-Ok.ensures c.look_and_add.ensures

pub returns-in-Err : goal.returns-in-Err
returns-in-Err g c = (c.in-Err.ensures, inl refl)
