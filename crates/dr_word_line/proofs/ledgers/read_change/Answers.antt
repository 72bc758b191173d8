use Rattle.dr_word_line.proofs.Places.{places_6}
use Rattle.dr_word_line.proofs.ledgers.read_change.Goals as goal

pub returns-in-len6-clause-asked : goal.returns-in-len6-clause-asked
returns-in-len6-clause-asked c = (
  _,
  places_6 _ c.args.words.now c.in-len6.len_at_least c.in-len6.len_below,
  (c.is_with_three.ensures.0 c.if-is_with_three.true).0,
  (c.is_with_three.ensures.0 c.if-is_with_three.true).1,
  (c.is_with_three.ensures.0 c.if-is_with_three.true).2,
  (c.are_paths.ensures.0 c.if-are_paths.true).0,
  (c.are_paths.ensures.0 c.if-are_paths.true).1,
  (c.is_with_three.ensures.0 c.if-is_with_three.true).3,
)
