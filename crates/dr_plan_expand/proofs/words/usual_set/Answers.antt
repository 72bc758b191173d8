use Rattle.std.proofs.Common.{◌∙◌, map}
use Rattle.std.proofs.lemmas.Result.{err_from_is_err_and}
use Rattle.dr_plan_text.proofs.OneAnswer.{is_nil}
use Rattle.dr_plan_expand.specs.Words.{YieldsOfSet, of_sets}
use Rattle.dr_plan_expand.specs.Lists.{Yields}
use Rattle.dr_plan_expand.proofs.Yielded.{yields_one, yields_mapped, yields_unmapped}
use Rattle.dr_plan_expand.proofs.OneMeaning.{of_set_one, not_nil}
use Rattle.dr_plan_expand.proofs.words.usual_set.Goals as goal

pub returns-in_err-uids-clause-unknown : goal.returns-in_err-uids-clause-unknown
returns-in_err-uids-clause-unknown c =
    let p = err_from_is_err_and c.from_residual.result c.from_residual.ensures.1 in
    rw (p.1, p.2) (λ e uids y some. c.in_err-uids.ensures.unknown e uids (yields_unmapped of_sets (Yields (YieldsOfSet c.args.name.now)) c.args.usual.now uids y))

pub returns-then-is_empty-clause-unknown : goal.returns-then-is_empty-clause-unknown
returns-then-is_empty-clause-unknown c = λ e uids y some.
    some (yields_one (Yields (YieldsOfSet c.args.name.now)) (yields_one (YieldsOfSet c.args.name.now) (of_set_one c.args.name.now)) (map of_sets c.args.usual.now) uids c.in_ok-uids.uids y
    (yields_mapped of_sets (Yields (YieldsOfSet c.args.name.now)) c.args.usual.now c.in_ok-uids.uids c.in_ok-uids.ensures.ok)
    ∙ is_nil c.in_ok-uids.uids c.if-is_empty.ensures)

pub returns-clause-ok : goal.returns-clause-ok
returns-clause-ok c = (yields_mapped of_sets (Yields (YieldsOfSet c.args.name.now)) c.args.usual.now c.in_ok-uids.uids c.in_ok-uids.ensures.ok, not_nil c.in_ok-uids.uids c.if-is_empty.ensures)
