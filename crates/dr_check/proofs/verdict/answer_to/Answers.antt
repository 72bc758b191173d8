use Rattle.dr_check.specs.declared.checker.Stopped.TheVariants as stopped
use Rattle.dr_check.specs.Stopping.{IsStoppedAt}
use Rattle.dr_check.proofs.OneFirst.{at_first_entry}
use Rattle.dr_check.proofs.verdict.answer_to.Goals as goal

pub returns-in-Fault : goal.returns-in-Fault
returns-in-Fault c = λ plan site cell is first.
    let at : IsStoppedAt plan (stopped.Fault c.in-Fault.fault) site cell = rw c.in-Fault.is at is in
    (at.0, at.1, at_first_entry plan site cell c.in-Fault.fault at.2 first)

pub returns-in-TooLarge : goal.returns-in-TooLarge
returns-in-TooLarge c = λ plan site cell is first. (let at : IsStoppedAt plan stopped.TooLarge site cell = rw c.in-TooLarge.is at is in at)
