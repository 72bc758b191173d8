use Rattle.dr_base.proofs.Numerals.{is_small, too_great}
use Rattle.dr_base.proofs.fields.read_small_number.Goals as goal

pub returns-in_default : goal.returns-in_default
returns-in_default c = λ n. too_great c.args.field.now c.in_ok-number.number n c.in_ok-number.ensures c.in_default.ensures

pub returns : goal.returns
returns c = is_small c.args.field.now c.in_ok-number.number c.in-Ok.small c.in_ok-number.ensures c.in-Ok.ensures.0 c.in-Ok.ensures.1
