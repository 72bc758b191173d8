use Rattle.dr_word_line.proofs.Places.{places_4}
use Rattle.dr_word_line.proofs.ledgers.read_audit.Goals as goal

pub returns-in-len4-clause-asked : goal.returns-in-len4-clause-asked
returns-in-len4-clause-asked c = (
  _,
  places_4 _ c.args.words.now c.in-len4.len_at_least c.in-len4.len_below,
  (c.is_with_three.ensures.0 c.if-is_with_three.true).0,
  (c.is_with_three.ensures.0 c.if-is_with_three.true).1,
  (c.is_with_three.ensures.0 c.if-is_with_three.true).2,
  (c.is_with_three.ensures.0 c.if-is_with_three.true).3,
)
