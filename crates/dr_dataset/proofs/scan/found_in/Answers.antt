use Rattle.std.proofs.Common.{subst}
use Rattle.std.proofs.lemmas.Result.{err_from_is_err_and}
use Rattle.dr_base.specs.declared.syntax.Syntax.{Syntax}
use Rattle.dr_dataset.specs.DataSet.{ShowsFault}
use Rattle.dr_dataset.proofs.scan.found_in.Goals as goal

pub returns-in_err-element-clause-err : goal.returns-in_err-element-clause-err
returns-in_err-element-clause-err c =
    let p = err_from_is_err_and c.from_residual.result c.from_residual.ensures.1 in
    let i = c.tokens.invariant in
    let e = c.in_err-element.ensures.err in
    rw (p.1, p.2) (e.0, (c.tokens.scanner.stack, i.1.0, c.tokens.rest.now, i.1.1, subst (λ (s : Syntax). ShowsFault s c.tokens.scanner.stack c.tokens.rest.now c.in_err-element.field-0.0) i.0 (e.1 c.tokens-test.ensures)))
