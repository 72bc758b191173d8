use Rattle.std.proofs.Common.{subst}
use Rattle.dr_world_audit.specs.Sites.{Audits}
use Rattle.dr_world_audit.specs.declared.audit.AuditVerdict.{AuditVerdict}
use Rattle.dr_word_audit.proofs.auditing.tell_verdict.Goals as goal

pub returns-in_ok-text-in-Holds : goal.returns-in_ok-text-in-Holds
returns-in_ok-text-in-Holds c = λ plan h.
    let P : AuditVerdict → Type 0 = λ v. Audits plan c.args.journals.now v in
    (subst P c.in-Holds.is h, c.in_ok-text-in-Holds.ensures)

pub returns-in_ok-text-in-No : goal.returns-in_ok-text-in-No
returns-in_ok-text-in-No c = λ plan h.
    let P : AuditVerdict → Type 0 = λ v. Audits plan c.args.journals.now v in
    (c.in-No.mismatch, subst P c.in-No.is h, c.in_ok-text-in-No.ensures)
