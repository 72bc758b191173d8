use Rattle.std.proofs.Common.{◌∙◌, sym}
use Rattle.dr_run_answer.proofs.Statuses.{under_own}
use Rattle.dr_run_answer.proofs.responses.counted_under.Goals as goal

pub returns-in-Some : goal.returns-in-Some
returns-in-Some c = under_own c.args.caller.now c.args.status c.args.lines.now _ (sym c.place_of.ensures ∙ c.in-Some.is)
