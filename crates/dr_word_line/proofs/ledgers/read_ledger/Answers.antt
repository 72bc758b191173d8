use Rattle.dr_word_line.specs.Words.{Asks, IsAdoptOf, IsAuditOf, IsDutyOf}
use Rattle.dr_run_files.specs.declared.node.NodeFiles.{NodeFiles as NodeFilesValue}
use Rattle.dr_word_line.specs.declared.words.Duty.{Duty as DutyValue}
use Rattle.dr_word_line.specs.declared.words.PlanChange.{PlanChange as PlanChangeValue}
use Rattle.dr_word_line.specs.declared.words.SiteFiles.{SiteFiles as SiteFilesValue}
use Rattle.dr_word_line.proofs.Trying.{none_left, none_right, some_or}
use Rattle.dr_word_line.proofs.ledgers.read_ledger.Goals as goal

pub returns-clause-asked : goal.returns-clause-asked
returns-clause-asked c =
    some_or (Asks c.args.words.now) _ _ _ c.or-2.ensures (some_or (Asks c.args.words.now) _ _ _ c.or.ensures (c.read_duty.ensures.asked) c.read_change.ensures.asked) c.read_audit.ensures.asked

pub returns-clause-duty : goal.returns-clause-duty
returns-clause-duty c =
    none_left ((given : NodeFilesValue) (duty : DutyValue) → IsDutyOf c.args.words.now given duty → ⊥) _ _ _ c.or-2.ensures (none_left ((given : NodeFilesValue) (duty : DutyValue) → IsDutyOf c.args.words.now given duty → ⊥) _ _ _ c.or.ensures c.read_duty.ensures.duty)

pub returns-clause-adopt : goal.returns-clause-adopt
returns-clause-adopt c =
    none_left ((change : PlanChangeValue) → IsAdoptOf c.args.words.now change → ⊥) _ _ _ c.or-2.ensures (none_right ((change : PlanChangeValue) → IsAdoptOf c.args.words.now change → ⊥) _ _ _ c.or.ensures c.read_change.ensures.adopt)

pub returns-clause-audit : goal.returns-clause-audit
returns-clause-audit c =
    none_right ((given : SiteFilesValue) → IsAuditOf c.args.words.now given → ⊥) _ _ _ c.or-2.ensures c.read_audit.ensures.audit
