use Rattle.std.proofs.Common.{refl, subst, sym}
use Rattle.dr_word_rehearse.specs.Looks.{LooksInto}
use Rattle.dr_word_rehearse.specs.declared.finds.LedgerFound.{LedgerFound}
use Rattle.dr_word_rehearse.specs.declared.looking.LedgerLook.TheVariants.{Older, Rows}
use Rattle.dr_word_rehearse.proofs.looking.look_into.Goals as goal

pub returns-in-Ok : goal.returns-in-Ok
returns-in-Ok g c = subst (λ (f : LedgerFound g.row.L.Denot). LooksInto g.L.Ledger.site g.L.Ledger.book g.L.Ledger.stands c.args.next.now.plan c.args.name.now f (Rows c.in-Ok.rows)) (sym c.in-Ledger.is) (c.in-Ok.rows, refl, c.in-Ok.ensures)

pub returns-in-Older : goal.returns-in-Older
returns-in-Older g c = subst (λ (f : LedgerFound g.row.L.Denot). LooksInto g.L.Ledger.site g.L.Ledger.book g.L.Ledger.stands c.args.next.now.plan c.args.name.now f Older) (sym c.in-Older.is) refl
