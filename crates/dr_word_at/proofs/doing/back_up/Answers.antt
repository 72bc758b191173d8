use Rattle.std.proofs.Common.{inl, inr, refl, ◌∙◌}
use Rattle.dr_word_at.proofs.doing.back_up.Goals as goal

pub returns-in-Err : goal.returns-in-Err
returns-in-Err g c = inl (refl, refl)

pub returns : goal.returns
returns g c = inr (c.as_str.result, c.as_str.ensures.value ∙ c.in-Ok.ensures, c.act.ensures)
