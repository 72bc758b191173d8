use Rattle.std.proofs.Common.{arith, refl}
use Rattle.dr_plan_core.proofs.GoodNames.{name_of}
use Rattle.dr_plan_core.proofs.names.is_name.Goals as goal

pub returns-then-is_printable : goal.returns-then-is_printable
returns-then-is_printable c = (
  λ h. name_of c.args.text.now c.if-is_empty.ensures (omega arith) c.if-is_reserved.ensures.1 (c.if-is_printable.ensures.0 refl) (c.is_trimmed.ensures.0 h),
  λ is. c.is_trimmed.ensures.1 is.trimmed,
)
