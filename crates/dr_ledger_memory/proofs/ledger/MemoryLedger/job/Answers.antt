use Rattle.std.proofs.Common.{◌∙◌, Some, ap, refl, sym}
use Rattle.dr_ledger_memory.proofs.ledger.MemoryLedger.job.Goals as goal

pub returns : goal.returns
returns c = let parts = c.in_ok-key.ensures.cases in record {
  entry = c.in-Some.entry.now;
  there = sym c.in-Some.ensures.value;
  uid_is = refl;
  key = λ i. record { class = parts.0 i; syntax = parts.1.0 i; modality = parts.1.1.0 i; station = parts.1.1.1 i };
  body = c.in-Some-body.is ∙ ap Some (sym c.in_ok-body.ensures);
}
