use Rattle.std.proofs.Common.{subst}
use Rattle.std.specs.Prelude.{ℕ, List, codes}
use Rattle.std.specs.Borrow.{Bor}
use Rattle.dr_word_line.specs.Words.{IsAtNode}
use Rattle.dr_word_line.proofs.Places.{places_1, same_word}
use Rattle.dr_word_line.proofs.ledgers.read_making.Goals as goal

pub returns-in_default-clause-make : goal.returns-in_default-clause-make
returns-in_default-clause-make c = λ given h. c.in_default.ensures.none given _ h

pub returns-in_default-clause-with_data : goal.returns-in_default-clause-with_data
returns-in_default-clause-with_data c = λ given h. c.in_default.ensures.none given _ h.1

pub returns-in-len1-clause-asked : goal.returns-in-len1-clause-asked
returns-in-len1-clause-asked c = (
  _,
  subst (λ (more : List (Bor (List ℕ))). IsAtNode (codes "new") c.args.words.now c.in-Some.given more) (places_1 _ c.in-Some.more.now c.in-len1.len_at_least c.in-len1.len_below) c.in-Some.ensures.found,
  same_word _ _ _ c.eq.ensures c.if-eq.true,
)
