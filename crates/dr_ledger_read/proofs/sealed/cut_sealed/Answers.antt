use Rattle.dr_ledger_read.proofs.Whole.{found, no_line, no_moment, unnumbered}
use Rattle.dr_ledger_read.proofs.sealed.cut_sealed.Goals as goal

pub returns-in_err-number : goal.returns-in_err-number
returns-in_err-number c = rw c.from_residual.ensures (unnumbered c.args.text.now c.in_err-number.ensures)

pub returns-in_err-line : goal.returns-in_err-line
returns-in_err-line c = rw c.from_residual-in_err-line.ensures (no_line c.args.text.now c.in_ok-number.number c.in_ok-number.behind c.in_ok-number.ensures c.in_err-line.ensures)

pub returns-in_err-moment : goal.returns-in_err-moment
returns-in_err-moment c =
    rw c.from_residual-in_err-moment.ensures
    (no_moment c.args.text.now c.in_ok-number.number c.in_ok-number.behind c.in_ok-number.ensures c.in_ok-line.line c.in_ok-line.later c.in_ok-line.ensures c.in_err-moment.ensures)

pub returns : goal.returns
returns c =
    found c.args.text.now c.in_ok-number.number c.in_ok-number.behind c.in_ok-number.ensures c.in_ok-line.line c.in_ok-line.later c.in_ok-line.ensures c.in_ok-moment.moment c.in_ok-moment.ensures
