use Rattle.std.proofs.Common.{◌≡◌, subst}
use Rattle.std.proofs.lemmas.Bool.{false≢true}
use Rattle.dr_route.specs.Routes.{AcceptsBy}
use Rattle.dr_plan_model.specs.declared.plan.Node.{Node}
use Rattle.dr_plan_model.proofs.sending.accepts.Goals as goal

pub returns-in_default : goal.returns-in_default
returns-in_default c = (λ never. absurd (false≢true never), λ a. absurd (c.in_default.ensures a.0 a.1))

pub returns : goal.returns
returns c =
    let rows : c.as_slice.result.now ≡ c.in-Some.node.now.accepts = c.as_slice.ensures in
    let by = rw rows at c.accepts.ensures in (
      λ h. (c.in-Some.node.now, c.in-Some.ensures.0, by.0 h),
      λ a. by.1 (let P : Node → Type 0 = λ n. AcceptsBy n.accepts c.args.caller.now c.args.class.now c.args.syntax in subst P (c.in-Some.ensures.1 a.0 a.1) a.2),
    )
