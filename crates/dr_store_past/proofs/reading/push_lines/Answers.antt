use Rattle.std.proofs.Common.{◌∙◌}
use Rattle.dr_ledger_history.specs.Lines.{lines_of}
use Rattle.dr_store_past.proofs.Told.{line_refused, said_all, said_pushed}
use Rattle.dr_store_past.proofs.Written.{err_told}
use Rattle.dr_store_past.proofs.reading.push_lines.Goals as goal

pub loop-text-preserved : goal.loop-text-preserved
loop-text-preserved c n lines held low are =
    said_pushed n c.loop-text.text-index lines c.args.texts.now c.as_bytes.result.now c.text-item.result
    (lines_of c.args.found.now) c.loop-text.found _ c.in_ok-line.line held low are c.loop-text-test.true
    (c.as_bytes.ensures ∙ c.text-item.is)
    (c.loop-text.invariant n lines held low are) c.in_ok-push.ensures.ok c.in_ok-line.ensures.read

pub returns-in_err-line-clause-why : goal.returns-in_err-line-clause-why
returns-in_err-line-clause-why c =
    err_told _ _ _ c.from_residual.ensures (line_refused c.loop-text.text-index c.args.texts.now c.as_bytes.result.now c.text-item.result c.loop-text-test.true
    (c.as_bytes.ensures ∙ c.text-item.is) _ c.in_err-line.ensures.why)

pub returns-clause-pushed : goal.returns-clause-pushed
returns-clause-pushed c n lines held low are =
    said_all n c.loop-text.text-index lines c.args.texts.now c.loop-text-test.false are
    (lines_of c.args.found.now) (lines_of c.loop-text.found) (c.loop-text.invariant n lines held low are)
