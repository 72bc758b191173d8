use Rattle.std.proofs.Common.{ap, ◌∙◌}
use Rattle.std.specs.FinSet as set
use Rattle.dr_base.specs.Texts.{text_cmp}
use Rattle.dr_ledger.proofs.Maps.{texts}
use Rattle.dr_ledger_history.specs.Trees.{as_set}
use Rattle.dr_ledger_history.proofs.Mapped.{set_put}
use Rattle.dr_ledger_history.proofs.trees.put_uid.Goals as goal

pub returns : goal.returns
returns c = set_put texts c.args.uids.now c.insert.new.self _ c.in_ok-insert.ensures.updates.0 ∙ ap (set.insert (as_set text_cmp c.args.uids.now)) c.in_ok-clone.ensures
