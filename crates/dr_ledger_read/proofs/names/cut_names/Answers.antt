use Rattle.std.proofs.Common.{refl}
use Rattle.dr_ledger_read.proofs.Listed.{names_cut, no_first, no_names_cut, no_others}
use Rattle.dr_ledger_read.proofs.names.cut_names.Goals as goal

pub returns-in-Some : goal.returns-in-Some
returns-in-Some c = no_names_cut c.args.text c.in-Some.rest c.in-Some.ensures

pub returns-in_err-more : goal.returns-in_err-more
returns-in_err-more c = rw c.from_residual.ensures (no_first c.args.text.now c.in_default.ensures c.in_err-more.ensures)

pub returns-in_err-rest : goal.returns-in_err-rest
returns-in_err-rest c =
    rw c.from_residual-in_err-rest.ensures (no_others c.args.text.now c.in_default.ensures c.in_ok-more.field-0-0 c.in_ok-more.more c.in_ok-more.ensures c.in_err-rest.ensures)

pub returns : goal.returns
returns c =
    names_cut c.args.text.now c.in_default.ensures c.in_ok-more.field-0-0 c.in_ok-more.more c.in_ok-more.ensures c.args.text c.in_ok-rest.field-0-0 c.in_ok-rest.rest refl c.in_ok-rest.ensures
