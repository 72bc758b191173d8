use Rattle.std.proofs.Common.{rules}
use Rattle.dr_ledger_history.proofs.Mapped.{pruned}
use Rattle.dr_ledger_history.proofs.trees.prune.Goals as goal

pub returns : goal.returns
returns c = pruned _ (λ f k v b w g t. (search rules, search rules)) _ c.args.rows.now c.retain.new.self c.retain.ensures.was_ordered c.retain.ensures.filtered
