use Rattle.std.proofs.Common.{◌≡◌, ◌∙◌, sym, ap, Err}
use Rattle.dr_dataset.specs.declared.hearing.ScanPlace.TheVariants.{Failed as InFailed}
use Rattle.dr_dataset.proofs.HearLemmas.{failed, failed_same, finishes_failed, cut, no_memory, read}
use Rattle.dr_dataset.proofs.hearing.Scan.finish.Goals as goal

pub returns-in-Failed : goal.returns-in-Failed
returns-in-Failed c = record {
  scans = λ s text h. failed c.settle.new.self c.in-Failed.fault c.in-Failed.is s text (c.settle.ensures.hears s text h);
  behind = finishes_failed c.args.self.now c.settle.new.self c.in-Failed.fault c.settle.ensures.hears c.in-Failed.is;
  again = λ f h. let same : InFailed c.in-Failed.fault ≡ InFailed f = sym c.in-Failed.is ∙ c.settle.ensures.failed f h in ap Err (failed_same c.in-Failed.fault f same);
}

pub returns-then-not-is_at_end-clause-scans : goal.returns-then-not-is_at_end-clause-scans
returns-then-not-is_at_end-clause-scans c =
    λ s text h. cut c.settle.new.self c.settle.ensures.settled c.in_default.not-Failed c.if-not-is_at_end.ensures s text (c.settle.ensures.hears s text h)

pub returns-then-not-is_at_end-clause-again : goal.returns-then-not-is_at_end-clause-again
returns-then-not-is_at_end-clause-again c = λ f h. absurd (c.in_default.not-Failed f (c.settle.ensures.failed f h))

pub returns-in_default-values_of : goal.returns-in_default-values_of
returns-in_default-values_of c = record {
  scans = λ s text h. no_memory c.settle.new.self c.if-not-is_at_end.ensures s text (c.settle.ensures.hears s text h);
  behind = c.settle.ensures.hears;
  again = λ f h. absurd (c.in_default.not-Failed f (c.settle.ensures.failed f h));
}

pub returns : goal.returns
returns c = record {
  scans = λ s text h. read c.settle.new.self c.in-Ok.values c.if-not-is_at_end.ensures c.in-Ok.ensures s text (c.settle.ensures.hears s text h);
  behind = c.settle.ensures.hears;
  again = λ f h. absurd (c.in_default.not-Failed f (c.settle.ensures.failed f h));
}
