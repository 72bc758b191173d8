use Rattle.std.proofs.Common.{refl}
use Rattle.dr_word_line.proofs.Places.{places_5}
use Rattle.dr_word_line.proofs.plans.read_diff.Goals as goal

pub returns-in-len5-clause-asked : goal.returns-in-len5-clause-asked
returns-in-len5-clause-asked c = (
  (
    _,
    places_5 _ c.args.words.now c.in-len5.len_at_least c.in-len5.len_below,
    (c.is_with_two.ensures.0 c.if-is_with_two.true).0,
    (c.is_with_two.ensures.0 c.if-is_with_two.true).1,
    (c.is_with_two.ensures.0 c.if-is_with_two.true).2,
    (c.are_paths.ensures.0 c.if-are_paths.true).0,
    (c.are_paths.ensures.0 c.if-are_paths.true).1,
  ),
  refl,
)
