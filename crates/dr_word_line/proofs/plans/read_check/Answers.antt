use Rattle.std.proofs.Common.{inr}
use Rattle.dr_word_line.proofs.Places.{places_1, places_2, same_word}
use Rattle.dr_word_line.proofs.plans.read_check.Goals as goal

pub returns-in-len1-clause-asked : goal.returns-in-len1-clause-asked
returns-in-len1-clause-asked c = inr (_, places_1 _ c.args.words.now c.in-len1.len_at_least c.in-len1.len_below, same_word _ _ _ c.eq.ensures c.if-eq.true)

pub returns-in-len2-clause-asked : goal.returns-in-len2-clause-asked
returns-in-len2-clause-asked c = (
  _,
  places_2 _ c.args.words.now c.in-len2.len_at_least c.in-len2.len_below,
  same_word _ _ _ c.eq-then-words-lt3.ensures c.if-eq-2.true,
  c.is_no_option.ensures.0 c.if-is_no_option.true,
)
