use Rattle.std.proofs.Common.{inl, inr, refl, ◌∙◌}
use Rattle.dr_word_at.proofs.doing.act.Goals as goal

pub returns-in-Err : goal.returns-in-Err
returns-in-Err g c = inl refl

pub returns-in-Ok-tell : goal.returns-in-Ok-tell
returns-in-Ok-tell g c = (c.in-Ok-tell.ensures, c.in-Ok.ensures ∙ c.as_bytes.ensures.value, refl)

pub returns-in-Err-tell : goal.returns-in-Err-tell
returns-in-Err-tell g c = inr c.in-Err-tell.ensures
