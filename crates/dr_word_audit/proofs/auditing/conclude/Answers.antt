use Rattle.std.proofs.Common.{List, sym, subst}
use Rattle.dr_base.specs.Texts.{Text}
use Rattle.dr_world_audit.specs.Sites.{Audits}
use Rattle.dr_world_audit.specs.declared.audit.NodeJournal.{NodeJournal}
use Rattle.dr_word_audit.specs.Audits.{IsConclusion}
use Rattle.dr_word_audit.proofs.auditing.conclude.Goals as goal

pub returns-in-Ok-came : goal.returns-in-Ok-came
returns-in-Ok-came g c =
    let plan = c.args.sealed.now.plan in
    let V : List NodeJournal → Type 0 = λ ns. Audits plan ns c.in-Ok.verdict in
    let verdict = subst V (sym c.as_slice-2.ensures.value) (subst V c.as_slice.ensures.value c.in-Ok.ensures) in
    let N : List NodeJournal → Type 0 = λ ns. IsConclusion plan ns c.args.all.now.told.items c.in-Ok-came.audited in
    let T : Text → Type 0 = λ told. IsConclusion plan c.as_slice-2.result.now told c.in-Ok-came.audited in
    subst N c.as_slice-2.ensures.value (subst T c.as_slice-3.ensures.value (c.in-Ok-came.ensures plan verdict))
