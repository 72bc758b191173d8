use Rattle.std.proofs.Common.{arith, refl}
use Rattle.dr_plan_text.proofs.forms.is_literal.Goals as goal

pub returns-then-is_plain : goal.returns-then-is_plain
returns-then-is_plain c = (
  λ h. record { short = omega arith; printable = c.if-is_plain.ensures.0 refl; trimmed = c.is_trimmed.ensures.0 h },
  λ is. c.is_trimmed.ensures.1 is.trimmed,
)
