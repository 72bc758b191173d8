use Rattle.std.proofs.Common.{refl, subst}
use Rattle.std.specs.Prelude.{ℕ, List, None}
use Rattle.std.specs.Borrow.{Bor}
use Rattle.dr_word_line.specs.Words.{IsAtRunning}
use Rattle.dr_word_line.proofs.Fronts.{first_2}
use Rattle.dr_word_line.proofs.Places.{same_word}
use Rattle.dr_word_line.proofs.running.to_running.Goals as goal

pub returns-in_default-clause-none : goal.returns-in_default-clause-none
returns-in_default-clause-none c = λ given more h. c.in_default.ensures.none (record given { token = None }) _ h.2

pub returns-in-len2-up-clause-found : goal.returns-in-len2-up-clause-found
returns-in-len2-up-clause-found c =
    let found = subst (λ (more : List (Bor (List ℕ))). IsAtRunning c.args.name.now c.args.words.now c.in-Some.given more) (first_2 _ c.in-Some.more.now c.in-len2-up.len_at_least) c.in-Some.ensures.found in (
      _,
      _,
      (found.0, found.1, found.2, found.3, found.4, found.5, found.6, found.7, refl),
      same_word _ _ _ c.eq.ensures c.if-eq.true,
      c.is_no_option.ensures.0 c.if-is_no_option.true,
      refl,
    )
