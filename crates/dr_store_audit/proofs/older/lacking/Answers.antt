use Rattle.std.proofs.Common.{◌∙◌}
use Rattle.dr_store_audit.proofs.Less.{written_out}
use Rattle.dr_store_audit.proofs.older.lacking.Goals as goal

pub returns : goal.returns
returns c = c.in_ok-is_less.ensures ∙ written_out _ _ _
