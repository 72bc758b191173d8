use Rattle.std.proofs.lemmas.Result.{err_from_is_err_and}
use Rattle.dr_plan_expand.proofs.Yielded.{yields_more, yields_none}
use Rattle.dr_plan_expand.proofs.yields.all.Goals as goal

pub loop-element-preserved : goal.loop-element-preserved
loop-element-preserved g c =
    rw c.in_ok-append.ensures (yields_more (g.Y.Yielding.yields c.args.way.now) c.args.elements.now c.loop-element.element-index c.element-item.result c.loop-element.out.items c.in_ok-things.field-0
    c.loop-element-test.true c.element-item.is c.loop-element.invariant c.in_ok-things.ensures.ok)

pub returns-in_err-things-clause-unknown : goal.returns-in_err-things-clause-unknown
returns-in_err-things-clause-unknown g c =
    let p = err_from_is_err_and c.from_residual.result c.from_residual.ensures.1 in
    rw (p.1, p.2) (λ e things h.
    yields_none (g.Y.Yielding.yields c.args.way.now) c.args.elements.now c.loop-element.element-index c.element-item.result things c.loop-element-test.true c.element-item.is (c.in_err-things.ensures.unknown e) h)
