use Rattle.std.proofs.Common.{◌++◌}
use Rattle.dr_base_quoted.specs.Quoting.{quoted}
use Rattle.dr_ledger_read.proofs.Between.{word_cut}
use Rattle.dr_ledger_read.proofs.quoted.cut_word.Goals as goal

pub returns-in_err-behind : goal.returns-in_err-behind
returns-in_err-behind c = rw c.from_residual.ensures (λ v rest is. c.in_err-behind.ensures (quoted v ++ rest) is.1)

pub returns : goal.returns
returns c = word_cut c.args.start.now c.args.text.now c.in_ok-behind.behind.now c.cut_quoted.result c.in_ok-behind.ensures c.cut_quoted.ensures
