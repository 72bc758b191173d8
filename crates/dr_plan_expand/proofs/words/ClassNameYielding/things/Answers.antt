use Rattle.std.proofs.Common.{refl, ◌∙◌, ap, inl, inr, [], ◌∷◌}
use Rattle.std.proofs.lemmas.Bool.{false≢true}
use Rattle.dr_plan_expand.proofs.words.ClassNameYielding.things.Goals as goal

pub returns-then-is_class-clause-ok : goal.returns-then-is_class-clause-ok
returns-then-is_class-clause-ok c = (c.args.word.now, inl (rw c.as_bytes.ensures at (c.if-is_class.ensures.0 refl), refl), c.in_ok-one.ensures ∙ ap (λ t. t ∷ []) c.as_bytes-then-is_class.ensures)

pub returns-in_ok-one-in-Some-clause-ok : goal.returns-in_ok-one-in-Some-clause-ok
returns-in_ok-one-in-Some-clause-ok c = (
  c.in-Some.uid.now,
  inr (λ is. false≢true (c.if-is_class.ensures.1 (rw c.as_bytes.ensures is)), rw c.as_bytes-2.ensures at c.in-Some.ensures),
  c.in_ok-one-in-Some.ensures ∙ ap (λ t. t ∷ []) c.as_bytes-in-Some.ensures.value,
)

pub returns-in-None-clause-unknown : goal.returns-in-None-clause-unknown
returns-in-None-clause-unknown c = λ e things y. elim y.1 [
  | inl own ↦ false≢true (c.if-is_class.ensures.1 (rw c.as_bytes.ensures own.0))
  | inr named ↦ (rw c.as_bytes-2.ensures at c.in-None.ensures) y.0 named.1
]
