use Rattle.dr_run_answer.proofs.Statuses.{under_new, under_others}
use Rattle.dr_run_answer.proofs.responses.own_if_few.Goals as goal

pub returns-then-kinds_of-lt-KINDS : goal.returns-then-kinds_of-lt-KINDS
returns-then-kinds_of-lt-KINDS c = under_new c.args.caller.now c.args.status c.args.lines.now c.kinds_of.result c.kinds_of.ensures c.if-kinds_of-lt-KINDS.true

pub returns : goal.returns
returns c = under_others c.args.caller.now c.args.status c.args.lines.now c.kinds_of.result c.requires c.kinds_of.ensures c.if-kinds_of-lt-KINDS.false
