use Rattle.std.proofs.Common.{inl, inr, refl, sym, ◌∙◌, []}
use Rattle.std.proofs.lemmas.Bool.{false≢true}
use Rattle.std.proofs.lemmas.List.{append-nil}
use Rattle.dr_cert_lint.specs.Findings.{syntax_row}
use Rattle.dr_cert_lint.proofs.lint.add_syntax.Goals as goal

pub returns-then-brings_in : goal.returns-then-brings_in
returns-then-brings_in c = ([], inr (λ un. un.1 (c.brings_in.ensures.0 c.if-brings_in.true), refl), sym (append-nil c.args.out.now.items))

pub returns-then-is_wanted : goal.returns-then-is_wanted
returns-then-is_wanted c = (
  syntax_row c.args.node.now c.args.number c.args.row.now c.args.syntax,
  inl ((c.is_wanted.ensures.0 c.if-is_wanted.true, λ brought. false≢true (sym c.if-brings_in.false ∙ c.brings_in.ensures.1 brought)), refl),
  c.in_ok-add_syntax_row.ensures,
)

pub returns : goal.returns
returns c = ([], inr (λ un. false≢true (sym c.if-is_wanted.false ∙ c.is_wanted.ensures.1 un.0), refl), sym (append-nil c.args.out.now.items))
