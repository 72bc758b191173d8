use Rattle.dr_word_line.proofs.Fronts.{first_5}
use Rattle.dr_word_line.proofs.ledgers.at_node.Goals as goal

pub returns-in-len5-up-clause-found : goal.returns-in-len5-up-clause-found
returns-in-len5-up-clause-found c = (
  _,
  first_5 _ c.args.words.now c.in-len5-up.len_at_least,
  (c.is_with_three.ensures.0 c.if-is_with_three.true).0,
  (c.is_with_three.ensures.0 c.if-is_with_three.true).1,
  (c.is_with_three.ensures.0 c.if-is_with_three.true).2,
  (c.is_with_three.ensures.0 c.if-is_with_three.true).3,
)
