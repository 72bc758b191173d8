use Rattle.std.proofs.Common.{arith, refl}
use Rattle.dr_plan_core.proofs.GoodNames.{name_of}
use Rattle.dr_plan_places.proofs.flaws.name_flaw.Goals as goal

pub returns-then-is_trimmed : goal.returns-then-is_trimmed
returns-then-is_trimmed c =
    name_of c.args.text.now c.if-is_empty.ensures (omega arith) c.if-is_reserved.ensures.1 c.in_default.ensures (c.if-is_trimmed.ensures.0 refl)
