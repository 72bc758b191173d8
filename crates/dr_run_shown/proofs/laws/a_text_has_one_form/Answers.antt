use Rattle.std.proofs.Common.{sym, ◌∙◌}
use Rattle.dr_run_shown.proofs.Decoded.{one_form}
use Rattle.dr_run_shown.proofs.Forms.{short_stands}
use Rattle.dr_run_shown.proofs.laws.a_text_has_one_form.Goals as goal

pub returns : goal.returns
returns c = λ these those xs ys short_these short_those same. one_form these those xs ys (sym (short_stands these short_these) ∙ same ∙ short_stands those short_those)
