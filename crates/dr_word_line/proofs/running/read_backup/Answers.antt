use Rattle.std.proofs.Common.{subst}
use Rattle.std.specs.Prelude.{ℕ, List, codes}
use Rattle.std.specs.Borrow.{Bor}
use Rattle.dr_word_line.specs.Words.{IsToRunning}
use Rattle.dr_word_line.proofs.Places.{places_1}
use Rattle.dr_word_line.proofs.running.read_backup.Goals as goal

pub returns-in_default-clause-backup : goal.returns-in_default-clause-backup
returns-in_default-clause-backup c = λ given copy h. c.in_default.ensures.none given _ h.0

pub returns-in-len1-clause-asked : goal.returns-in-len1-clause-asked
returns-in-len1-clause-asked c = (
  subst (λ (more : List (Bor (List ℕ))). IsToRunning (codes "backup") c.args.words.now c.in-Some.given more)
      (places_1 _ c.in-Some.more.now c.in-len1.len_at_least c.in-len1.len_below)
      c.in-Some.ensures.found,
  c.is_no_option.ensures.0 c.if-is_no_option.true,
)
