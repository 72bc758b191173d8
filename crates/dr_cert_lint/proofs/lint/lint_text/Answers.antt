use Rattle.std.proofs.Common.{◌≡◌, ◌∙◌, ap, subst, List, ◌++◌, ℕ, take}
use Rattle.std.specs.Prelude.{◌-◌}
use Rattle.dr_plan_model.specs.Networks.{Network}
use Rattle.dr_plan_model.specs.declared.plan.Flow.{Flow}
use Rattle.dr_cert_lint.specs.Findings.{IsFlowText}
use Rattle.dr_cert_lint.specs.Texts.{AreRows}
use Rattle.dr_cert_lint.proofs.lint.lint_text.Goals as goal

pub returns : goal.returns
returns c =
    let plan = c.args.sealed.now.plan in
    let flows : c.flows.result.now ≡ plan.flows = c.flows.ensures.same ∙ ap (λ (p : Network). p.flows) c.plan.ensures.same in
    let of_nodes = c.in_ok-add_nodes.ensures in
    let of_flows = c.in_ok-add_flows.ensures in (
      of_nodes.0,
      of_flows.0,
      of_nodes.1,
      subst (λ (fs : List Flow). AreRows (λ number. IsFlowText (take (number - 1) fs) number) 1 fs of_flows.0) flows of_flows.1,
      c.from_vec.ensures ∙ (of_flows.2 ∙ ap (λ (xs : List ℕ). xs ++ of_flows.0) (of_nodes.2 ∙ ap (λ (xs : List ℕ). xs ++ of_nodes.0) c.new-out.ensures.items)),
    )
