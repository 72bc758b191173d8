use Rattle.dr_word_line.specs.Words.{Asks, IsForgetOf, IsGiveUpOf, IsRequeueAllOf, IsRequeueOf}
use Rattle.std.specs.Prelude.{ℕ, List}
use Rattle.std.specs.Borrow.{Bor}
use Rattle.dr_run_files.specs.declared.node.NodeFiles.{NodeFiles as NodeFilesValue}
use Rattle.dr_word_line.proofs.Trying.{none_left, none_right, some_or}
use Rattle.dr_word_line.proofs.ledgers.read_rows.Goals as goal

pub returns-clause-asked : goal.returns-clause-asked
returns-clause-asked c =
    some_or (Asks c.args.words.now) _ _ _ c.or-2.ensures (some_or (Asks c.args.words.now) _ _ _ c.or.ensures (c.read_requeue.ensures.asked) c.read_giving_up.ensures.asked) c.read_forgetting.ensures.asked

pub returns-clause-requeue : goal.returns-clause-requeue
returns-clause-requeue c =
    none_left ((given : NodeFilesValue) (uid dest : Bor (List ℕ)) → IsRequeueOf c.args.words.now given uid dest → ⊥) _ _ _ c.or-2.ensures (none_left ((given : NodeFilesValue) (uid dest : Bor (List ℕ)) → IsRequeueOf c.args.words.now given uid dest → ⊥) _ _ _ c.or.ensures c.read_requeue.ensures.requeue)

pub returns-clause-requeue_all : goal.returns-clause-requeue_all
returns-clause-requeue_all c =
    none_left ((given : NodeFilesValue) (dest : Bor (List ℕ)) → IsRequeueAllOf c.args.words.now given dest → ⊥) _ _ _ c.or-2.ensures (none_left ((given : NodeFilesValue) (dest : Bor (List ℕ)) → IsRequeueAllOf c.args.words.now given dest → ⊥) _ _ _ c.or.ensures c.read_requeue.ensures.requeue_all)

pub returns-clause-give_up : goal.returns-clause-give_up
returns-clause-give_up c =
    none_left ((given : NodeFilesValue) (uid dest : Bor (List ℕ)) → IsGiveUpOf c.args.words.now given uid dest → ⊥) _ _ _ c.or-2.ensures (none_right ((given : NodeFilesValue) (uid dest : Bor (List ℕ)) → IsGiveUpOf c.args.words.now given uid dest → ⊥) _ _ _ c.or.ensures c.read_giving_up.ensures.give_up)

pub returns-clause-forget : goal.returns-clause-forget
returns-clause-forget c =
    none_right ((given : NodeFilesValue) (uid : Bor (List ℕ)) → IsForgetOf c.args.words.now given uid → ⊥) _ _ _ c.or-2.ensures c.read_forgetting.ensures.forget
