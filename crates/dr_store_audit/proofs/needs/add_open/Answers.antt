use Rattle.std.proofs.Common.{◌∙◌, sym}
use Rattle.dr_store_audit.proofs.Adding.{added_open}
use Rattle.dr_ledger_history.specs.Trees.{as_set}
use Rattle.dr_base.specs.Texts.{text_cmp}
use Rattle.dr_store_audit.proofs.needs.add_open.Goals as goal

pub returns-then-is_queued : goal.returns-then-is_queued
returns-then-is_queued c = added_open c.put_uid.result (as_set text_cmp c.args.uids.now) (as_set text_cmp c.put_uid.new.uids) c.args.row.now (sym c.is_queued.ensures ∙ c.if-is_queued.true) c.put_uid.ensures
