use Rattle.std.proofs.Common.{inl, inr, refl, sym, ◌∙◌, []}
use Rattle.std.proofs.lemmas.Bool.{false≢true}
use Rattle.std.proofs.lemmas.List.{append-nil}
use Rattle.std.specs.Prelude.{All}
use Rattle.std.proofs.lemmas.List.Elements.{All-contains}
use Rattle.dr_route.specs.Laws.{IsKnownRule}
use Rattle.dr_plan_model.specs.Plans.{literals_of}
use Rattle.dr_plan_model.proofs.WalksAlike.{known_rules}
use Rattle.dr_cert_lint.specs.Findings.{rule_row}
use Rattle.dr_cert_lint.proofs.lint.add_rule.Goals as goal

pub is_used-requires : goal.is_used-requires
is_used-requires c =
    let plan = c.args.sealed.now.plan in
    All-contains (IsKnownRule (literals_of plan)) c.args.node.now.rules c.args.rule.now (known_rules plan c.args.node.now c.requires.node) c.requires.rule

pub returns-then-branch : goal.returns-then-branch
returns-then-branch c =
    let used = c.in_ok-is_used.ensures.0 c.if-branch.true in
    ([], inr (λ none. none used.0 used.1 used.2 used.3, refl), sym (append-nil c.args.out.now.items))

pub returns : goal.returns
returns c =
    (rule_row c.args.node.now c.args.number, inl (λ key caller reached holds. false≢true (sym c.if-branch.false ∙ c.in_ok-is_used.ensures.1 (key, caller, reached, holds)), refl), c.in_ok-add_rule_row.ensures)
