use Rattle.dr_word_line.proofs.Places.{places_3}
use Rattle.dr_word_line.proofs.plans.read_question.Goals as goal

pub returns-in-len3-clause-asked : goal.returns-in-len3-clause-asked
returns-in-len3-clause-asked c = (
  _,
  places_3 _ c.args.words.now c.in-len3.len_at_least c.in-len3.len_below,
  (c.is_with_two.ensures.0 c.if-is_with_two.true).0,
  (c.is_with_two.ensures.0 c.if-is_with_two.true).1,
  (c.is_with_two.ensures.0 c.if-is_with_two.true).2,
)

pub returns-in-len3-2-clause-asked : goal.returns-in-len3-2-clause-asked
returns-in-len3-2-clause-asked c = (
  _,
  places_3 _ c.args.words.now c.in-len3.len_at_least c.in-len3.len_below,
  (c.is_with_two-then-words-lt4.ensures.0 c.if-is_with_two-2.true).0,
  (c.is_with_two-then-words-lt4.ensures.0 c.if-is_with_two-2.true).1,
  (c.is_with_two-then-words-lt4.ensures.0 c.if-is_with_two-2.true).2,
)
