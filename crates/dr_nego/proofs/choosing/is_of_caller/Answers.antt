use Rattle.std.proofs.lemmas.Bool.Decides.{same_from_decides}
use Rattle.dr_nego.specs.Answering.{is_caller}
use Rattle.dr_nego.proofs.OneContext.{caller_told}
use Rattle.dr_nego.proofs.choosing.is_of_caller.Goals as goal

pub returns : goal.returns
returns c = same_from_decides c.is_caller.result (is_caller c.args.row.now.from c.args.caller.now) c.is_caller.ensures (caller_told c.args.row.now.from c.args.caller.now)
