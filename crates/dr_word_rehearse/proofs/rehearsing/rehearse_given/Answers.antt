use Rattle.std.proofs.Common.{inl, inr, refl}
use Rattle.dr_word_rehearse.proofs.rehearsing.rehearse_given.Goals as goal

pub returns-in-Ok : goal.returns-in-Ok
returns-in-Ok g c = inl (c.in-Ok.old, c.in-Ok.next, c.in-Ok.ensures, c.rehearse_besides-came.ensures)

pub returns-in-Err : goal.returns-in-Err
returns-in-Err g c = inr (c.in-Err.halt, refl, c.requires, c.in-Err.ensures)
