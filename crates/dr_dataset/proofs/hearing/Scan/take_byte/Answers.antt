use Rattle.std.proofs.Common.{sym, ap, ◌∙◌, arith, length, Err}
use Rattle.std.proofs.lemmas.Bool.{eqb-true}
use Rattle.dr_dataset.specs.Tokens.{token_of}
use Rattle.dr_dataset.specs.declared.fault.DataFault.{DataFault}
use Rattle.dr_dataset.proofs.HearLemmas.{never_full, waits, faults, begins}
use Rattle.dr_dataset.proofs.hearing.Scan.take_byte.Goals as goal

pub returns-then-is_full : goal.returns-then-is_full
returns-then-is_full c = λ is s text h. absurd (never_full c.args.self.now s text h is (eqb-true (length c.args.self.now.header.items) 12 (sym c.is_full.ensures.value ∙ c.if-is_full.true)))

pub returns-in-Truncated : goal.returns-in-Truncated
returns-in-Truncated c =
    let old = c.args.self.now.scanner in
    let e = c.in-Err.ensures.err in
    waits c.args.self.now c.step.new.self c.push.new.self c.args.byte (omega (arith, c.ranges.byte.fits)) c.push.ensures.items c.step.ensures.syntax e.1
    (ap (token_of old.syntax old.stack) (sym c.as_slice.ensures.value) ∙ e.0 ∙ ap (λ (f : DataFault). Err f) c.in-Truncated.is)

pub returns-in-Err : goal.returns-in-Err
returns-in-Err c =
    let old = c.args.self.now.scanner in
    faults c.args.self.now c.step.new.self c.push.new.self c.args.byte c.in-Err.fault c.push.ensures.items c.step.ensures.syntax c.in_default.not-Truncated
    (ap (token_of old.syntax old.stack) (sym c.as_slice.ensures.value) ∙ c.in-Err.ensures.err.0)

pub returns : goal.returns
returns c =
    let old = c.args.self.now.scanner in
    let o = c.in-Ok.ensures.ok in
    λ is s text h. c.begin.ensures s _ (begins c.args.self.now c.step.new.self c.push.new.self c.args.byte c.in-Ok.token _ c.clear.new.self c.push.ensures.items c.step.ensures.syntax
    (ap (token_of old.syntax old.stack) (sym c.as_slice.ensures.value) ∙ o.0) o.1 old.nested c.clear.ensures is s text h)
