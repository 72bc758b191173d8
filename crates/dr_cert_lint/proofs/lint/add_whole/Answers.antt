use Rattle.std.proofs.Common.{inl, inr, refl, sym, ◌∙◌, []}
use Rattle.std.proofs.lemmas.Bool.{false≢true}
use Rattle.std.proofs.lemmas.List.{append-nil}
use Rattle.dr_cert_lint.specs.Findings.{whole_row}
use Rattle.dr_cert_lint.proofs.lint.add_whole.Goals as goal

pub returns-then-branch : goal.returns-then-branch
returns-then-branch c =
    let used = c.in_ok-is_used.ensures.0 c.if-branch.true in
    ([], inr (λ none. none used.0 used.1 used.2, refl), sym (append-nil c.args.out.now.items))

pub returns : goal.returns
returns c =
    (whole_row c.args.node.now, inl (λ key caller reached. false≢true (sym c.if-branch.false ∙ c.in_ok-is_used.ensures.1 (key, caller, reached, tt)), refl), c.in_ok-add_whole_row.ensures)
