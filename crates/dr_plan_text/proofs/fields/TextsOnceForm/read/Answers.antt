use Rattle.std.proofs.lemmas.Bool.{false≢true}
use Rattle.std.proofs.lemmas.Result.{err_from_is_err_and}
use Rattle.toml.specs.View.{view}
use Rattle.dr_plan_text.specs.Fields.{SaysText}
use Rattle.dr_plan_text.proofs.OneAnswer.{SaysText-one, IsSomeOf-one}
use Rattle.dr_plan_text.proofs.fields.TextsOnceForm.read.Goals as goal

pub returns-in_err-texts-clause-field : goal.returns-in_err-texts-clause-field
returns-in_err-texts-clause-field c =
    let p = err_from_is_err_and c.from_residual.result c.from_residual.ensures.1 in
    rw (p.1, p.2) (λ e xs says. c.in_err-texts.ensures.field e xs says.0)

pub returns-then-not-branch-clause-field : goal.returns-then-not-branch-clause-field
returns-then-not-branch-clause-field c = λ e xs says.
    let same = IsSomeOf-one SaysText SaysText-one (view c.args.value.now) c.in_ok-texts.texts xs c.in_ok-texts.ensures.ok says.0 in
    false≢true (rw c.if-not-branch.true at (c.in_ok-are_apart.ensures.1 (rw c.as_slice.ensures (rw same says.1))))
