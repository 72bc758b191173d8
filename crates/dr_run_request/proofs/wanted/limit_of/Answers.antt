use Rattle.std.proofs.Common.{refl, sym, ◌∙◌}
use Rattle.std.proofs.lemmas.Bool.{false≢true}
use Rattle.dr_run_request.proofs.Numerals.{not_within, writes_none}
use Rattle.dr_run_request.proofs.wanted.limit_of.Goals as goal

pub returns-in_default : goal.returns-in_default
returns-in_default c = (refl, writes_none c.args.word.now c.in_default.ensures)

pub returns : goal.returns
returns c = (refl, not_within c.args.word.now c.in-Some.number c.in-Some.ensures.1 (sym c.in-Some.ensures.0) (λ is. false≢true (sym c.if-is_limit.false ∙ c.is_limit.ensures.1 is)))
