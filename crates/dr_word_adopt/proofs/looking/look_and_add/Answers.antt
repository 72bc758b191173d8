use Rattle.std.proofs.Common.{inl}
use Rattle.dr_word_adopt.proofs.Changed.{added}
use Rattle.dr_word_adopt.proofs.looking.look_and_add.Goals as goal

pub returns-in-Ok : goal.returns-in-Ok
returns-in-Ok g c = added g.L.Ledger.site g.L.Ledger.book g.L.Ledger.stands c.args.next.now c.args.standing c.look_into-seen.new.standing c.look_into-seen.result c.told.result c.args.all.now.items c.add.new.all.items
    c.look_into-seen.ensures c.told.ensures c.in-Ok.ensures.ok

pub returns-in-Err : goal.returns-in-Err
returns-in-Err g c = (tt, inl c.in-Err.ensures.err)
