use Rattle.dr_ledger.proofs.Maps.{text_pairs}
use Rattle.dr_ledger_history.proofs.Mapped.{put_at}
use Rattle.dr_ledger_history.proofs.trees.put_row.Goals as goal

pub returns : goal.returns
returns c = put_at text_pairs c.args.rows.now c.insert.new.self c.args.at c.args.row c.in_ok-insert.ensures.updates.0
