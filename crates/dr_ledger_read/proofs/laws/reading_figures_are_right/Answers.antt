use Rattle.std.proofs.Common.{arith, refl}
use Rattle.std.specs.Fmt.{digits}
use Rattle.hex.proofs.OnLiterals.{hex_on_literals}
use Rattle.dr_ledger_read.proofs.Reread.{never_ended, never_empty, never_padded, tried_is_held}
use Rattle.dr_ledger_read.proofs.laws.reading_figures_are_right.Goals as goal

pub returns : goal.returns
unfolding digits hex_on_literals
returns c = (
  record { number = omega arith; held = tried_is_held; written = omega arith; is = refl },
  record { number = omega arith; held = tt; written = tt; is = refl },
  never_empty,
  never_ended c.texts_are_one_line.ensures,
  never_padded,
)
