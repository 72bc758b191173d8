use Rattle.std.proofs.Common.{◌++◌, decimal}
use Rattle.dr_ledger_read.proofs.Counts.{count_cut}
use Rattle.dr_ledger_read.proofs.numbers.cut_count.Goals as goal

pub returns-in_err-behind : goal.returns-in_err-behind
returns-in_err-behind c = rw c.from_residual.ensures (λ n rest is. c.in_err-behind.ensures (decimal n ++ rest) is.2)

pub returns : goal.returns
returns c = count_cut c.args.start.now c.args.text.now c.in_ok-behind.behind.now c.cut_number.result c.in_ok-behind.ensures c.cut_number.ensures
