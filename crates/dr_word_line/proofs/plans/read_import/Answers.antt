use Rattle.dr_word_line.proofs.Places.{places_2, same_word}
use Rattle.dr_word_line.proofs.plans.read_import.Goals as goal

pub returns-in-len2-clause-asked : goal.returns-in-len2-clause-asked
returns-in-len2-clause-asked c = (
  _,
  places_2 _ c.args.words.now c.in-len2.len_at_least c.in-len2.len_below,
  same_word _ _ _ c.eq.ensures c.if-eq.true,
  c.is_no_option.ensures.0 c.if-is_no_option.true,
)
