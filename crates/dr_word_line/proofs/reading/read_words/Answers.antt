use Rattle.std.specs.Prelude.{◌≡◌}
use Rattle.dr_word_line.specs.Words.{Asks}
use Rattle.dr_word_line.specs.declared.words.Task.{Task}
use Rattle.dr_word_line.proofs.OneAsked.{one_asked}
use Rattle.dr_word_line.proofs.Trying.{anything}
use Rattle.dr_word_line.proofs.reading.read_words.Goals as goal

pub returns-in-Some : goal.returns-in-Some
returns-in-Some c = λ asked h. one_asked _ _ asked c.in-Some.ensures h

pub returns-in-None : goal.returns-in-None
returns-in-None c =
    anything (λ (found : Task). (asked : Task) → Asks c.args.words.now asked → found ≡ asked) _
    (λ found asked h. absurd (c.in-None.ensures asked h))
