use Rattle.std.proofs.Common.{rules}
use Rattle.dr_ledger_memory.proofs.Trees.{retained}
use Rattle.dr_ledger_memory.proofs.parts.prune_all.Goals as goal

pub returns-clause-pruned : goal.returns-clause-pruned
returns-clause-pruned c = retained _ (λ f k v b w g t. (search rules, search rules)) _ c.args.held.now.entries c.retain.new.self.entries c.retain.ensures.filtered
