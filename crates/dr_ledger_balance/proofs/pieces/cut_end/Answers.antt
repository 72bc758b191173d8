use Rattle.dr_ledger_balance.proofs.Lines.{end_there, no_count, no_end, unended_end}
use Rattle.dr_ledger_balance.proofs.pieces.cut_end.Goals as goal

pub returns-in_err-behind : goal.returns-in_err-behind
returns-in_err-behind c = rw c.from_residual.ensures (no_end c.args.text.now c.in_err-behind.ensures)

pub returns-in_err-count : goal.returns-in_err-count
returns-in_err-count c = rw c.from_residual-in_err-count.ensures (no_count c.args.text.now c.in_ok-behind.behind.now c.in_ok-behind.ensures c.in_err-count.ensures)

pub returns-in_err-rest : goal.returns-in_err-rest
returns-in_err-rest c =
    rw c.from_residual-in_err-rest.ensures
    (unended_end c.args.text.now c.in_ok-behind.behind.now c.in_ok-behind.ensures c.in_ok-count.count c.in_ok-count.later.now c.in_ok-count.ensures c.in_err-rest.ensures)

pub returns : goal.returns
returns c =
    end_there c.args.text.now c.in_ok-behind.behind.now c.in_ok-behind.ensures c.in_ok-count.count c.in_ok-count.later.now c.in_ok-count.ensures c.in_ok-rest.rest.now c.in_ok-rest.ensures
