use Rattle.std.proofs.Common.{inl, inr, refl, sym, ◌∙◌, []}
use Rattle.std.proofs.lemmas.Bool.{false≢true}
use Rattle.std.proofs.lemmas.List.{append-nil}
use Rattle.dr_cert_lint.specs.Findings.{flow_row}
use Rattle.dr_cert_lint.proofs.lint.add_flow.Goals as goal

pub returns-then-is_among : goal.returns-then-is_among
returns-then-is_among c = (flow_row c.args.number c.args.flow.now, inl (c.is_among.ensures.0 c.if-is_among.true, refl), c.in_ok-add_flow_row.ensures)

pub returns : goal.returns
returns c = ([], inr (λ among. false≢true (sym c.if-is_among.false ∙ c.is_among.ensures.1 among), refl), sym (append-nil c.args.out.now.items))
