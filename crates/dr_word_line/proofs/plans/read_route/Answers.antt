use Rattle.dr_word_line.proofs.Places.{places_5, places_8}
use Rattle.dr_word_line.proofs.plans.read_route.Goals as goal

pub returns-in-len5-clause-asked : goal.returns-in-len5-clause-asked
returns-in-len5-clause-asked c = (
  _,
  places_5 _ c.args.words.now c.in-len5.len_at_least c.in-len5.len_below,
  (c.is_with_three.ensures.0 c.if-is_with_three.true).0,
  (c.is_with_three.ensures.0 c.if-is_with_three.true).1,
  (c.is_with_three.ensures.0 c.if-is_with_three.true).2,
  (c.is_with_three.ensures.0 c.if-is_with_three.true).3,
)

pub returns-in-len8-clause-asked : goal.returns-in-len8-clause-asked
returns-in-len8-clause-asked c = (
  _,
  places_8 _ c.args.words.now c.in-len8.len_at_least c.in-len8.len_below,
  (c.is_with_two.ensures.0 c.if-is_with_two.true).0,
  (c.is_with_two.ensures.0 c.if-is_with_two.true).1,
  (c.is_with_two.ensures.0 c.if-is_with_two.true).2,
)
