use Rattle.std.proofs.Common.{get_or}
use Rattle.dr_plan_model.specs.Formed.{IsDigit}
use Rattle.dr_plan_text.proofs.Ports.{digit_is, one_digit_more}
use Rattle.dr_plan_text.proofs.forms.port_of.Goals as goal

pub loop-digit-preserved : goal.loop-digit-preserved
loop-digit-preserved c =
    let is : IsDigit (get_or c.args.digits.now c.loop-digit.digit-index 0) = digit_is _ c.if-not-is_ascii_digit.ensures.value in
    one_digit_more c.args.digits.now c.loop-digit.digit-index c.loop-digit.port c.from.result c.loop-digit-test.true is c.from.ensures c.loop-digit.invariant
