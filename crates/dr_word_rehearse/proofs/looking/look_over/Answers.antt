use Rattle.std.proofs.Common.{refl, subst, sym}
use Rattle.dr_word_rehearse.specs.Looks.{LooksOver}
use Rattle.dr_word_rehearse.specs.declared.finds.LedgerFound.{LedgerFound}
use Rattle.dr_word_rehearse.specs.declared.looking.LedgerLook.TheVariants.{Older, Rows}
use Rattle.dr_word_rehearse.proofs.looking.look_over.Goals as goal

pub returns-in-Ledger : goal.returns-in-Ledger
returns-in-Ledger g c = subst (λ (f : LedgerFound g.row.L.Denot). LooksOver f (Rows c.new.result)) (sym c.in-Ledger.is) (c.new.result, refl, c.new.ensures.items)

pub returns-in-Older : goal.returns-in-Older
returns-in-Older g c = subst (λ (f : LedgerFound g.row.L.Denot). LooksOver f Older) (sym c.in-Older.is) refl
