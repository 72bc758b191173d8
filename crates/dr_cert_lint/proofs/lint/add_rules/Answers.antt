use Rattle.std.proofs.Common.{◌≡◌, ◌+◌, ◌<◌, ◌∙◌, refl, sym, ap, subst, ℕ, List, ◌++◌, length, get_or, take, arith}
use Rattle.std.proofs.lemmas.List.{take_all}
use Rattle.dr_route.specs.declared.rule.Rule.{Rule}
use Rattle.dr_cert_lint.specs.Findings.{IsRuleText}
use Rattle.dr_cert_lint.proofs.Numbered.{all_added, none_added, one_added}
use Rattle.dr_cert_lint.proofs.lint.add_rules.Goals as goal

pub loop-rule-init : goal.loop-rule-init
loop-rule-init c = (refl, none_added (IsRuleText c.args.sealed.now.plan c.args.node.now) c.args.out.now.items)

pub add_rule-requires-clause-rule : goal.add_rule-requires-clause-rule
add_rule-requires-clause-rule c =
    let all = c.args.node.now.rules in
    let same : c.as_slice-rule-items.result.now ≡ all = c.as_slice-rule-items.ensures in
    let lt : c.loop-rule.rule-index < length all = subst (λ (xs : List Rule). c.loop-rule.rule-index < length xs) same c.loop-rule-test.true in
    let at : c.rule-item.result ≡ get_or all c.loop-rule.rule-index c.rule-item.result = subst (λ (xs : List Rule). c.rule-item.result ≡ get_or xs c.loop-rule.rule-index c.rule-item.result) same c.rule-item.is in
    (c.loop-rule.rule-index, lt, sym at)

pub loop-rule-preserved : goal.loop-rule-preserved
loop-rule-preserved c =
    let all = c.args.node.now.rules in
    let same : c.as_slice-rule-items.result.now ≡ all = c.as_slice-rule-items.ensures in
    let lt : c.loop-rule.rule-index < length all = subst (λ (xs : List Rule). c.loop-rule.rule-index < length xs) same c.loop-rule-test.true in
    let at : c.rule-item.result ≡ get_or all c.loop-rule.rule-index c.rule-item.result = subst (λ (xs : List Rule). c.rule-item.result ≡ get_or xs c.loop-rule.rule-index c.rule-item.result) same c.rule-item.is in
    let number : c.loop-rule.number + 1 ≡ c.loop-rule.rule-index + 1 = ap (λ (n : ℕ). n + 1) c.loop-rule.invariant.0 in
    let row = c.in_ok-add_rule.ensures in (
      number,
      one_added (IsRuleText c.args.sealed.now.plan c.args.node.now) all c.loop-rule.rule-index c.rule-item.result c.args.out.now.items c.loop-rule.out.items c.add_rule.new.out.items lt at c.loop-rule.invariant.1
          (row.0, subst (λ (n : ℕ). (IsRuleText c.args.sealed.now.plan c.args.node.now) n c.rule-item.result row.0) number row.1, row.2),
    )

pub returns : goal.returns
returns c =
    let xs = c.args.node.now.rules in
    let same : c.as_slice-rule-items.result.now ≡ xs = c.as_slice-rule-items.ensures in
    let long : length c.as_slice-rule-items.result.now ≡ length xs = ap length same in
    let all : take c.loop-rule.rule-index xs ≡ xs = take_all _ _ (omega arith) in
    all_added (IsRuleText c.args.sealed.now.plan c.args.node.now) xs c.loop-rule.rule-index c.args.out.now.items c.loop-rule.out.items all c.loop-rule.invariant.1
