use Rattle.dr_word_audit.proofs.reading.see.Goals as goal

pub returns-in-Ok : goal.returns-in-Ok
returns-in-Ok g c = record {
  site = c.read_ledger.ensures.site;
  named = c.in-Ok.ensures.named;
  same = λ st. (c.in-Ok.ensures.same st, c.in-Ok.ensures.shown st);
}
