use Rattle.std.proofs.Common.{subst}
use Rattle.std.specs.Prelude.{ℕ, List, codes}
use Rattle.std.specs.Borrow.{Bor}
use Rattle.dr_word_line.specs.Words.{IsToRunning}
use Rattle.dr_word_line.proofs.Places.{places_2, same_word}
use Rattle.dr_word_line.proofs.running.read_requeue.Goals as goal

pub returns-in_default-clause-requeue : goal.returns-in_default-clause-requeue
returns-in_default-clause-requeue c = λ given uid dest h. c.in_default.ensures.none given _ h.0

pub returns-in_default-clause-requeue_all : goal.returns-in_default-clause-requeue_all
returns-in_default-clause-requeue_all c = λ given dest h. c.in_default.ensures.none given _ h.1

pub returns-in-len2-clause-asked : goal.returns-in-len2-clause-asked
returns-in-len2-clause-asked c = (
  _,
  subst (λ (more : List (Bor (List ℕ))). IsToRunning (codes "requeue") c.args.words.now c.in-Some.given more) (places_2 _ c.in-Some.more.now c.in-len2.len_at_least c.in-len2.len_below) c.in-Some.ensures.found,
  same_word _ _ _ c.eq.ensures c.if-eq.true,
)

pub returns-in-len2-2-clause-asked : goal.returns-in-len2-2-clause-asked
returns-in-len2-2-clause-asked c = (
  subst (λ (more : List (Bor (List ℕ))). IsToRunning (codes "requeue") c.args.words.now c.in-Some.given more) (places_2 _ c.in-Some.more.now c.in-len2.len_at_least c.in-len2.len_below) c.in-Some.ensures.found,
  c.is_no_option.ensures.0 c.if-is_no_option.true,
)
