use Rattle.std.proofs.Common.{◌∙◌, ap, inl, inr, [], ◌∷◌}
use Rattle.dr_plan_expand.proofs.words.SyntaxesYielding.things.Goals as goal

pub returns-in_ok-one-in-Some-clause-ok : goal.returns-in_ok-one-in-Some-clause-ok
returns-in_ok-one-in-Some-clause-ok c = inl (c.in-Some.uid.now, rw c.as_bytes.ensures at c.in-Some.ensures, c.in_ok-one-in-Some.ensures ∙ ap (λ t. t ∷ []) c.as_bytes-in-Some.ensures.value)

pub returns-in_ok-one-in-None-clause-ok : goal.returns-in_ok-one-in-None-clause-ok
returns-in_ok-one-in-None-clause-ok c = inr (rw c.as_bytes.ensures at c.in-None.ensures, c.in_ok-one-in-None.ensures ∙ ap (λ t. t ∷ []) c.as_bytes-in-None.ensures)
