use Rattle.std.proofs.Common.{refl}
use Rattle.std.specs.Fmt.{digits}
use Rattle.hex.proofs.OnLiterals.{hex_on_literals}
use Rattle.dr_ledger_text.proofs.laws.text_figures_are_right.Goals as goal

pub returns : goal.returns
unfolding digits hex_on_literals
returns c = (refl, refl, refl)
