use Rattle.std.proofs.Common.{sym, ◌∙◌}
use Rattle.std.proofs.lemmas.Bool.{false≢true}
use Rattle.dr_ledger_read.proofs.Whole.{end_goes_on, ended_there, no_end}
use Rattle.dr_ledger_read.proofs.sealed.read_end.Goals as goal

pub returns-then-is_brace : goal.returns-then-is_brace
returns-then-is_brace c = (tt, c.is_brace.ensures.0 c.if-is_brace.true)

pub returns-in_err-moment : goal.returns-in_err-moment
returns-in_err-moment c = rw c.from_residual.ensures (no_end c.args.text.now (λ e. false≢true (sym c.if-is_brace.false ∙ c.is_brace.ensures.1 e)) c.in_err-moment.ensures)

pub returns-then-not-is_brace : goal.returns-then-not-is_brace
returns-then-not-is_brace c =
    end_goes_on c.args.text.now c.in_ok-moment.moment c.in_ok-moment.rest c.in_ok-moment.ensures (λ e. false≢true (sym c.if-is_brace.false ∙ c.is_brace.ensures.1 e))
    (λ e. false≢true (sym c.if-not-is_brace.true ∙ c.is_brace-2.ensures.1 e))

pub returns : goal.returns
returns c = ended_there c.args.text.now c.in_ok-moment.moment c.in_ok-moment.rest c.in_ok-moment.ensures (c.is_brace-2.ensures.0 c.if-not-is_brace.false)
