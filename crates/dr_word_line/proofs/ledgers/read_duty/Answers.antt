use Rattle.dr_word_line.specs.Words.{Asks, IsDutyOf, IsForgetOf, IsGiveUpOf, IsListOf, IsMakeOf, IsMakeWithDataOf, IsRequeueAllOf, IsRequeueOf, IsSendOf, IsServeOf, IsSummaryOf}
use Rattle.std.specs.Prelude.{ℕ, List}
use Rattle.std.specs.Borrow.{Bor}
use Rattle.dr_run_files.specs.declared.node.NodeFiles.{NodeFiles as NodeFilesValue}
use Rattle.dr_word_line.specs.declared.words.Duty.{Duty as DutyValue}
use Rattle.dr_word_line.proofs.Trying.{at_none, from_none, ors, some_or}
use Rattle.dr_word_line.proofs.Nothing.{no_duty}
use Rattle.dr_word_line.proofs.ledgers.read_duty.Goals as goal

pub returns-clause-asked : goal.returns-clause-asked
returns-clause-asked c =
    some_or (Asks c.args.words.now) _ _ _ c.or-2.ensures (some_or (Asks c.args.words.now) _ _ _ c.or.ensures (c.read_whole.ensures.asked) c.read_rows.ensures.asked) c.read_sending.ensures.asked

pub returns-clause-duty : goal.returns-clause-duty
returns-clause-duty c =
    from_none ((given : NodeFilesValue) (duty : DutyValue) → IsDutyOf c.args.words.now given duty → ⊥) _ (λ none.
    let last = ors c.or-2.ensures none in
    let next1 = ors c.or.ensures last.0 in
    no_duty c.args.words.now
    (at_none ((given : NodeFilesValue) → IsListOf c.args.words.now given → ⊥) _ c.read_whole.ensures.list next1.0)
    (at_none ((given : NodeFilesValue) → IsServeOf c.args.words.now given → ⊥) _ c.read_whole.ensures.serve next1.0)
    (at_none ((given : NodeFilesValue) (uid dest : Bor (List ℕ)) → IsRequeueOf c.args.words.now given uid dest → ⊥) _ c.read_rows.ensures.requeue next1.1)
    (at_none ((given : NodeFilesValue) (file : Bor (List ℕ)) → IsSendOf c.args.words.now given file → ⊥) _ c.read_sending.ensures.send last.1)
    (at_none ((given : NodeFilesValue) → IsSummaryOf c.args.words.now given → ⊥) _ c.read_whole.ensures.summary next1.0)
    (at_none ((given : NodeFilesValue) (dest : Bor (List ℕ)) → IsRequeueAllOf c.args.words.now given dest → ⊥) _ c.read_rows.ensures.requeue_all next1.1)
    (at_none ((given : NodeFilesValue) (uid dest : Bor (List ℕ)) → IsGiveUpOf c.args.words.now given uid dest → ⊥) _ c.read_rows.ensures.give_up next1.1)
    (at_none ((given : NodeFilesValue) (uid : Bor (List ℕ)) → IsForgetOf c.args.words.now given uid → ⊥) _ c.read_rows.ensures.forget next1.1)
    (at_none ((given : NodeFilesValue) → IsMakeOf c.args.words.now given → ⊥) _ c.read_whole.ensures.make next1.0)
    (at_none ((given : NodeFilesValue) → IsMakeWithDataOf c.args.words.now given → ⊥) _ c.read_whole.ensures.with_data next1.0))
