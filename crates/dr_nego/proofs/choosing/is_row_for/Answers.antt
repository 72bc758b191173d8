use Rattle.std.proofs.lemmas.Bool.Decides.{same_from_decides}
use Rattle.dr_nego.specs.Answering.{is_row_for}
use Rattle.dr_nego.proofs.OneContext.{class_told}
use Rattle.dr_nego.proofs.choosing.is_row_for.Goals as goal

pub returns : goal.returns
returns c = same_from_decides c.takes_class.result (is_row_for c.args.caller.now c.args.class.now c.args.row.now) c.takes_class.ensures (class_told c.args.row.now c.args.caller.now c.args.class.now)
