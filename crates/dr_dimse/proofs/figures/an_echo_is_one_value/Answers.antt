use Rattle.std.proofs.Common.{refl, inr, arith}
use Rattle.dr_dimse.specs.Vectors.{echo_request, echo_answer, cancel, cancel_text}
use Rattle.dr_pdu.specs.Vectors.{echo_command}
use Rattle.dr_dimse.specs.Written.{written}
use Rattle.dr_dimse.proofs.FigureLemmas.{request_read, answer_read, cancel_read}
use Rattle.dr_dimse.proofs.figures.an_echo_is_one_value.Goals as goal

pub returns : goal.returns
returns c = record {
  request = inr (inr (echo_command, echo_request, (((tt, refl), refl, omega arith), refl, refl), request_read, omega arith, (refl, refl, refl)));
  cancel = inr (inr (cancel_text, cancel, (((tt, refl), refl, omega arith), refl, refl), cancel_read, omega arith, (refl, refl, refl)));
  answer = inr (inr (written echo_answer, echo_answer, (((tt, refl), refl, omega arith), refl, refl), answer_read, (omega arith, refl), (refl, refl, refl)));
  other_id = (refl, inr (written echo_answer, echo_answer, (((tt, refl), refl, omega arith), refl, refl), answer_read, λ e. let same = e.1 in absurd (cc)));
  not_asked = (refl, inr (written echo_answer, echo_answer, (((tt, refl), refl, omega arith), refl, refl), answer_read, λ e. e));
  reverse = (refl, inr (echo_command, echo_request, (((tt, refl), refl, omega arith), refl, refl), request_read, λ e. omega (arith, e.0)));
}
