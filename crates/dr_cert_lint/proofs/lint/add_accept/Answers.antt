use Rattle.std.proofs.Common.{◌≡◌, ◌∙◌, refl, ap, subst, List, ◌++◌}
use Rattle.dr_base.specs.declared.syntax.Syntax.TheVariants.{Implicit, Explicit}
use Rattle.dr_plan_model.specs.Networks.{Network}
use Rattle.dr_plan_model.specs.declared.plan.Flow.{Flow}
use Rattle.dr_cert_lint.specs.Findings.{IsSyntaxText}
use Rattle.dr_cert_lint.proofs.Chained.{chained}
use Rattle.dr_cert_lint.proofs.lint.add_accept.Goals as goal

pub returns : goal.returns
returns c =
    let old = c.args.out.now.items in
    let node = c.args.node.now in
    let row = c.args.row.now in
    let number = c.args.number in
    let flows : c.flows-flows.result.now ≡ c.args.sealed.now.plan.flows = c.flows-flows.ensures.same ∙ ap (λ (p : Network). p.flows) c.plan.ensures.same in
    let unused = c.in_ok-add_unused.ensures in
    let implicit = c.in_ok-add_syntax.ensures in
    let explicit = c.in_ok-add_syntax-2.ensures in (
      unused.0 ++ implicit.0 ++ explicit.0,
      (
        unused.0,
        implicit.0,
        explicit.0,
        unused.1,
        subst (λ (fs : List Flow). IsSyntaxText fs node number row Implicit implicit.0) flows implicit.1,
        subst (λ (fs : List Flow). IsSyntaxText fs node number row Explicit explicit.0) flows explicit.1,
        refl,
      ),
      chained old (unused.0 ++ implicit.0) explicit.0 c.add_syntax.new.out.items c.add_syntax-2.new.out.items
          (chained old unused.0 implicit.0 c.add_unused.new.out.items c.add_syntax.new.out.items unused.2 implicit.2) explicit.2,
    )
