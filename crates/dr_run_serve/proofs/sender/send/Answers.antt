use Rattle.std.proofs.Common.{◌∙◌, inl, inr, sym}
use Rattle.dr_run_serve.proofs.sender.send.Goals as goal

pub returns-in-Err-clause-sends : goal.returns-in-Err-clause-sends
returns-in-Err-clause-sends g c = inl c.in-Err.ensures

pub returns-in-Err-next_due-clause-sends : goal.returns-in-Err-next_due-clause-sends
returns-in-Err-next_due-clause-sends g c =
    let due = c.next_due.ensures in
    inr (c.in-Ok.came, due.0, c.in-Ok.ensures, due.1, sym due.2 ∙ c.in-Err-next_due.is)

pub returns-clause-sends : goal.returns-clause-sends
returns-clause-sends g c =
    let due = c.next_due.ensures in
    (c.in-Ok.came, c.now.result, due.0, c.in-Ok.ensures, c.now.ensures.tells, c.rest_after.ensures, due.1, sym due.2 ∙ c.in-Ok-next_due.is, c.of.ensures)
