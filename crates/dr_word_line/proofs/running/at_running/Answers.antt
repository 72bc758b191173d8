use Rattle.std.proofs.Common.{refl}
use Rattle.dr_word_line.proofs.Fronts.{first_6}
use Rattle.dr_word_line.proofs.running.at_running.Goals as goal

pub returns-in-len6-up-clause-found : goal.returns-in-len6-up-clause-found
returns-in-len6-up-clause-found c = (
  _,
  _,
  first_6 _ c.args.words.now c.in-len6-up.len_at_least,
  (c.is_with_two.ensures.0 c.if-is_with_two.true).0,
  (c.is_with_two.ensures.0 c.if-is_with_two.true).1,
  (c.is_with_two.ensures.0 c.if-is_with_two.true).2,
  (c.is_at.ensures.0 c.if-is_at.true).0,
  (c.is_at.ensures.0 c.if-is_at.true).1,
  refl,
)
