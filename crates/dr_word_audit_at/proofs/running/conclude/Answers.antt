use Rattle.dr_word_audit_at.proofs.running.conclude.Goals as goal

pub returns : goal.returns
returns c = (
  c.in_ok-judged.judged.journals.items,
  c.in_ok-judged.judged.verdict,
  c.in_ok-told.told.items,
  c.in_ok-judged.ensures,
  (rw (c.as_slice.ensures.value, c.as_slice-2.ensures.value) at c.in_ok-audited.ensures) c.args.sealed.now.plan c.in_ok-judged.ensures.audited,
)
