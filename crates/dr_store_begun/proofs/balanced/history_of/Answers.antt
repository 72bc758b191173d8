use Rattle.std.proofs.Common.{◌∙◌}
use Rattle.dr_store_begun.proofs.balanced.history_of.Goals as goal

pub returns : goal.returns
returns c = c.of_trees.ensures ∙ c.in_ok-trees.ensures
