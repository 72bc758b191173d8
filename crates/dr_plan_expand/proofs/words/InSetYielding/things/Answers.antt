use Rattle.std.proofs.Common.{refl, ◌∙◌, ap, inl, inr, [], ◌∷◌}
use Rattle.std.proofs.lemmas.Bool.{false≢true}
use Rattle.dr_plan_expand.proofs.words.InSetYielding.things.Goals as goal

pub returns-then-is_in-clause-ok : goal.returns-then-is_in-clause-ok
returns-then-is_in-clause-ok c = inl (c.if-is_in.ensures.0 refl, c.in_ok-one.ensures ∙ ap (λ t. t ∷ []) c.as_bytes.ensures.value)

pub returns-clause-ok : goal.returns-clause-ok
returns-clause-ok c = inr (λ is. false≢true (c.if-is_in.ensures.1 is), c.new.ensures)
