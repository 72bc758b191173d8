use Rattle.std.proofs.Common.{subst}
use Rattle.std.proofs.lemmas.Result.{err_from_is_err_and}
use Rattle.dr_base.specs.declared.syntax.Syntax.{Syntax}
use Rattle.dr_dataset.specs.DataSet.{ShowsFault}
use Rattle.dr_dataset.proofs.AdvanceLemmas.{whole_element}
use Rattle.dr_dataset.proofs.scanner.Scanner.element.Goals as goal

pub returns-in_err-whole-clause-err : goal.returns-in_err-whole-clause-err
returns-in_err-whole-clause-err c =
    let p = err_from_is_err_and c.from_residual.result c.from_residual.ensures.1 in
    let i = c.tokens.invariant in
    let e = c.in_err-whole.ensures.err in
    rw (p.1, p.2) (e.0, (c.tokens.self.stack, c.tokens.rest.now, i.1, subst (λ (s : Syntax). ShowsFault s c.tokens.self.stack c.tokens.rest.now c.in_err-whole.field-0.0) i.0 (e.1 i.2)))

pub returns-in-Some-clause-ok : goal.returns-in-Some-clause-ok
returns-in-Some-clause-ok c =
    let i = c.tokens.invariant in
    whole_element c.args.self.now.syntax c.tokens.self.syntax c.tokens.self.stack c.args.text.now c.tokens.rest.now _ _ _ _ i.0 i.1 c.in-Some.is c.in_ok-whole.ensures.whole c.in_ok-whole.ensures.ok
