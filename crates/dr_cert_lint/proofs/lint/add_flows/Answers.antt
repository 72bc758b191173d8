use Rattle.std.proofs.Common.{◌≡◌, ◌+◌, ◌<◌, ◌∙◌, refl, sym, ap, subst, ℕ, List, ◌++◌, length, get_or, take, arith}
use Rattle.std.specs.Prelude.{◌-◌}
use Rattle.std.proofs.lemmas.List.{take_all}
use Rattle.dr_plan_model.specs.declared.plan.Flow.{Flow}
use Rattle.dr_cert_lint.specs.Findings.{IsFlowText}
use Rattle.dr_cert_lint.proofs.Numbered.{all_added, none_added, one_added}
use Rattle.dr_cert_lint.proofs.lint.add_flows.Goals as goal

pub loop-flow-init : goal.loop-flow-init
loop-flow-init c = (refl, none_added (λ number. IsFlowText (take (number - 1) c.args.flows.now) number) c.args.out.now.items)

pub loop-flow-preserved : goal.loop-flow-preserved
loop-flow-preserved c =
    let flows = c.args.flows.now in
    let at = c.loop-flow.flow-index in
    let flow = c.flow-item.result in
    let same : c.loop-flow.number ≡ at = c.loop-flow.invariant.0 in
    let number : c.loop-flow.number + 1 ≡ at + 1 = ap (λ (n : ℕ). n + 1) same in
    let before : c.loop-flow.number ≡ at + 1 - 1 = omega (arith, same) in
    let row = c.in_ok-add_flow.ensures in
    let of_those : IsFlowText (take (at + 1 - 1) flows) (c.loop-flow.number + 1) flow row.0 = subst (λ (n : ℕ). IsFlowText (take n flows) (c.loop-flow.number + 1) flow row.0) before row.1 in (
      number,
      one_added (λ number. IsFlowText (take (number - 1) flows) number) flows at flow c.args.out.now.items c.loop-flow.out.items c.add_flow.new.out.items c.loop-flow-test.true c.flow-item.is c.loop-flow.invariant.1
          (row.0, subst (λ (n : ℕ). IsFlowText (take (at + 1 - 1) flows) n flow row.0) number of_those, row.2),
    )

pub returns : goal.returns
returns c =
    let xs = c.args.flows.now in
    let all : take c.loop-flow.flow-index xs ≡ xs = take_all _ _ (omega arith) in
    all_added (λ number. IsFlowText (take (number - 1) xs) number) xs c.loop-flow.flow-index c.args.out.now.items c.loop-flow.out.items all c.loop-flow.invariant.1
