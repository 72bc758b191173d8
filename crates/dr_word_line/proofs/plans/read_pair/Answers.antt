use Rattle.dr_word_line.proofs.Places.{places_3, places_4}
use Rattle.dr_word_line.proofs.plans.read_pair.Goals as goal

pub returns-in-len3-clause-asked : goal.returns-in-len3-clause-asked
returns-in-len3-clause-asked c = (
  _,
  places_3 _ c.args.words.now c.in-len3.len_at_least c.in-len3.len_below,
  (c.is_with_two.ensures.0 c.if-is_with_two.true).0,
  (c.is_with_two.ensures.0 c.if-is_with_two.true).1,
  (c.is_with_two.ensures.0 c.if-is_with_two.true).2,
)

pub returns-in-len4-clause-asked : goal.returns-in-len4-clause-asked
returns-in-len4-clause-asked c = (
  _,
  places_4 _ c.args.words.now c.in-len4.len_at_least c.in-len4.len_below,
  (c.is_with_three.ensures.0 c.if-is_with_three.true).0,
  (c.is_with_three.ensures.0 c.if-is_with_three.true).1,
  (c.is_with_three.ensures.0 c.if-is_with_three.true).2,
  (c.is_with_three.ensures.0 c.if-is_with_three.true).3,
)

pub returns-in-len4-2-clause-asked : goal.returns-in-len4-2-clause-asked
returns-in-len4-2-clause-asked c = (
  _,
  places_4 _ c.args.words.now c.in-len4.len_at_least c.in-len4.len_below,
  (c.is_with_path.ensures.0 c.if-is_with_path.true).0,
  (c.is_with_path.ensures.0 c.if-is_with_path.true).1,
)
