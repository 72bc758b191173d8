use Rattle.dr_base.specs.declared.syntax.Syntax.TheVariants.{Implicit, Explicit}
use Rattle.dr_ledger_read.proofs.Literals.{no_syntax, syntax_cut}
use Rattle.dr_ledger_read.proofs.members.cut_syntax.Goals as goal

pub returns-in-Some : goal.returns-in-Some
returns-in-Some c = syntax_cut c.args.text.now Implicit c.in-Some.rest c.in-Some.ensures

pub returns-in_err-rest : goal.returns-in_err-rest
returns-in_err-rest c = rw c.from_residual.ensures (no_syntax c.args.text.now c.in_default.ensures c.in_err-rest.ensures)

pub returns : goal.returns
returns c = syntax_cut c.args.text.now Explicit c.in_ok-rest.rest c.in_ok-rest.ensures
