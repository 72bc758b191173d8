use Rattle.dr_word_line.specs.Words.{Asks, IsErrandOf}
use Rattle.std.specs.Prelude.{ℕ, List}
use Rattle.std.specs.Borrow.{Bor}
use Rattle.dr_word_line.specs.declared.words.Errand.TheVariants as errands
use Rattle.dr_word_line.specs.declared.words.RunningNode.{RunningNode as RunningNodeValue}
use Rattle.dr_word_line.proofs.Trying.{none_left, none_right, some_or}
use Rattle.dr_word_line.proofs.running.read_work.Goals as goal

pub returns-clause-asked : goal.returns-clause-asked
returns-clause-asked c =
    some_or (Asks c.args.words.now) _ _ _ c.or-2.ensures (some_or (Asks c.args.words.now) _ _ _ c.or.ensures (c.read_visiting.ensures.asked) c.read_backup.ensures.asked) c.read_stopping.ensures.asked

pub returns-clause-visit : goal.returns-clause-visit
returns-clause-visit c =
    none_left ((given : RunningNodeValue) (dest : Bor (List ℕ)) → IsErrandOf c.args.words.now given (errands.Visit dest) → ⊥) _ _ _ c.or-2.ensures (none_left ((given : RunningNodeValue) (dest : Bor (List ℕ)) → IsErrandOf c.args.words.now given (errands.Visit dest) → ⊥) _ _ _ c.or.ensures c.read_visiting.ensures.visit)

pub returns-clause-backup : goal.returns-clause-backup
returns-clause-backup c =
    none_left ((given : RunningNodeValue) (copy : Bor (List ℕ)) → IsErrandOf c.args.words.now given (errands.Backup copy) → ⊥) _ _ _ c.or-2.ensures (none_right ((given : RunningNodeValue) (copy : Bor (List ℕ)) → IsErrandOf c.args.words.now given (errands.Backup copy) → ⊥) _ _ _ c.or.ensures c.read_backup.ensures.backup)

pub returns-clause-stop : goal.returns-clause-stop
returns-clause-stop c =
    none_right ((given : RunningNodeValue) → IsErrandOf c.args.words.now given errands.Stop → ⊥) _ _ _ c.or-2.ensures c.read_stopping.ensures.stop
