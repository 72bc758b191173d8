use Rattle.dr_ledger.proofs.Maps.{text_pairs}
use Rattle.dr_ledger_history.proofs.Mapped.{put_at}
use Rattle.dr_ledger_balance.proofs.trees.insert_row.Goals as goal

pub returns : goal.returns
returns c = put_at text_pairs c.args.tree.now c.insert.new.self c.args.row.0 c.args.row.1 c.in_ok-insert.ensures.updates.0
