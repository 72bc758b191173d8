use Rattle.std.proofs.Common.{inl, inr}
use Rattle.dr_run_control.proofs.console.Console.back_up.Goals as goal

pub returns-in-Ok : goal.returns-in-Ok
returns-in-Ok g c = inl (c.in-Ok.path, c.back_up.result, c.in-Ok.ensures, c.back_up.ensures, c.told_of_copy.ensures.status, c.told_of_copy.ensures.text)

pub returns-in-Err : goal.returns-in-Err
returns-in-Err g c = inr (c.in-Err.fault, c.in-Err.ensures, c.misread.ensures.status, c.misread.ensures.text)
