use Rattle.dr_word_line.specs.Words.{Asks, IsErrandOf}
use Rattle.std.specs.Prelude.{ℕ, List}
use Rattle.std.specs.Borrow.{Bor}
use Rattle.dr_word_line.specs.declared.words.Errand.{Errand as ErrandValue}
use Rattle.dr_word_line.specs.declared.words.Errand.TheVariants as errands
use Rattle.dr_word_line.specs.declared.words.RunningNode.{RunningNode as RunningNodeValue}
use Rattle.dr_word_line.proofs.Trying.{at_none, from_none, ors, some_or}
use Rattle.dr_word_line.proofs.Nothing.{no_errand}
use Rattle.dr_word_line.proofs.running.read_running.Goals as goal

pub returns-clause-asked : goal.returns-clause-asked
returns-clause-asked c =
    some_or (Asks c.args.words.now) _ _ _ c.or-2.ensures (some_or (Asks c.args.words.now) _ _ _ c.or.ensures (c.read_question.ensures.asked) c.read_rows.ensures.asked) c.read_work.ensures.asked

pub returns-clause-errand : goal.returns-clause-errand
returns-clause-errand c =
    from_none ((given : RunningNodeValue) (errand : ErrandValue) → IsErrandOf c.args.words.now given errand → ⊥) _ (λ none.
    let last = ors c.or-2.ensures none in
    let next1 = ors c.or.ensures last.0 in
    no_errand c.args.words.now
    (at_none ((given : RunningNodeValue) → IsErrandOf c.args.words.now given errands.List → ⊥) _ c.read_question.ensures.list next1.0)
    (at_none ((given : RunningNodeValue) → IsErrandOf c.args.words.now given errands.Summary → ⊥) _ c.read_question.ensures.summary next1.0)
    (at_none ((given : RunningNodeValue) (uid dest : Bor (List ℕ)) → IsErrandOf c.args.words.now given (errands.Requeue uid dest) → ⊥) _ c.read_rows.ensures.requeue next1.1)
    (at_none ((given : RunningNodeValue) (dest : Bor (List ℕ)) → IsErrandOf c.args.words.now given (errands.RequeueAll dest) → ⊥) _ c.read_rows.ensures.requeue_all next1.1)
    (at_none ((given : RunningNodeValue) (uid dest : Bor (List ℕ)) → IsErrandOf c.args.words.now given (errands.GiveUp uid dest) → ⊥) _ c.read_rows.ensures.give_up next1.1)
    (at_none ((given : RunningNodeValue) (uid : Bor (List ℕ)) → IsErrandOf c.args.words.now given (errands.Forget uid) → ⊥) _ c.read_rows.ensures.forget next1.1)
    (at_none ((given : RunningNodeValue) (dest : Bor (List ℕ)) → IsErrandOf c.args.words.now given (errands.Visit dest) → ⊥) _ c.read_work.ensures.visit last.1)
    (at_none ((given : RunningNodeValue) (copy : Bor (List ℕ)) → IsErrandOf c.args.words.now given (errands.Backup copy) → ⊥) _ c.read_work.ensures.backup last.1)
    (at_none ((given : RunningNodeValue) → IsErrandOf c.args.words.now given errands.Stop → ⊥) _ c.read_work.ensures.stop last.1))
