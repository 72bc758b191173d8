use Rattle.std.proofs.Common.{ap}
use Rattle.std.specs.Prelude.{Err}
use Rattle.dr_desk.proofs.Causes.{why_not_read}
use Rattle.dr_desk.proofs.Journals.{starts}
use Rattle.dr_desk.proofs.shared.SharedDesk.new.Goals as goal

pub invariant_of-held-clause-grows : goal.invariant_of-held-clause-grows
invariant_of-held-clause-grows g c = λ s. starts _ _ _ _ c.requires.first (c.line_count.ensures.same s).0 (c.in-Ok.ensures.reply s)

pub returns-in-Err-clause-stored : goal.returns-in-Err-clause-stored
returns-in-Err-clause-stored g c = λ stored. c.in-Err.ensures.counts.has_cause (ap Err stored)

pub returns-in-Err-clause-cause : goal.returns-in-Err-clause-cause
returns-in-Err-clause-cause g c = λ stands. why_not_read _ _ (c.in-Err.ensures.reply stands)
