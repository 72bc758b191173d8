use Rattle.std.proofs.Common.{refl, ◌∷◌, [], inl, inr}
use Rattle.std.specs.Prelude.{codes}
use Rattle.dr_word_at.proofs.shown.put_over.Goals as goal

pub returns-then-is_word : goal.returns-then-is_word
returns-then-is_word c = (codes "done" ∷ [], inr (inr (inl (c.is_word.ensures.0 c.if-is_word.true, refl))), c.in_ok-put_alone.ensures)

pub returns-then-is_word-2 : goal.returns-then-is_word-2
returns-then-is_word-2 c = (codes "dropped" ∷ [], inr (inr (inr (c.is_word-2.ensures.0 c.if-is_word-2.true, refl))), c.in_ok-put_alone-2.ensures)
