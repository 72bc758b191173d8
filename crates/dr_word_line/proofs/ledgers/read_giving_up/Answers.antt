use Rattle.std.proofs.Common.{subst}
use Rattle.std.specs.Prelude.{ℕ, List, codes}
use Rattle.std.specs.Borrow.{Bor}
use Rattle.dr_word_line.specs.Words.{IsAtNode}
use Rattle.dr_word_line.proofs.Places.{places_2}
use Rattle.dr_word_line.proofs.ledgers.read_giving_up.Goals as goal

pub returns-in_default-clause-give_up : goal.returns-in_default-clause-give_up
returns-in_default-clause-give_up c = λ given uid dest h. c.in_default.ensures.none given _ h.0

pub returns-in-len2-clause-asked : goal.returns-in-len2-clause-asked
returns-in-len2-clause-asked c = (
  subst (λ (more : List (Bor (List ℕ))). IsAtNode (codes "drop") c.args.words.now c.in-Some.given more) (places_2 _ c.in-Some.more.now c.in-len2.len_at_least c.in-len2.len_below) c.in-Some.ensures.found,
  c.is_no_option.ensures.0 c.if-is_no_option.true,
)
