use Rattle.std.proofs.Common.{refl}
use Rattle.std.specs.Fmt.{digits}
use Rattle.hex.proofs.OnLiterals.{hex_on_literals}
use Rattle.dr_ledger_balance.proofs.Figures.{never_behind, never_empty, never_padded, never_too_long}
use Rattle.dr_ledger_balance.proofs.laws.balance_figures_are_right.Goals as goal

pub returns : goal.returns
unfolding digits hex_on_literals
returns c = (refl, never_empty, never_padded, never_too_long, never_behind)
