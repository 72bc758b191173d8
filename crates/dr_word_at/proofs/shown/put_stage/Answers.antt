use Rattle.std.proofs.Common.{inl, inr}
use Rattle.dr_word_at.proofs.shown.put_stage.Goals as goal

pub returns-then-is_word : goal.returns-then-is_word
returns-then-is_word c =
    let came = c.in_ok-put_waiting.ensures in (came.0, inl (c.is_word.ensures.0 c.if-is_word.true, came.1), came.2)

pub returns-then-is_word-2 : goal.returns-then-is_word-2
returns-then-is_word-2 c =
    let came = c.in_ok-put_held.ensures in (came.0, inr (inl (c.is_word-2.ensures.0 c.if-is_word-2.true, came.1)), came.2)

pub returns : goal.returns
returns c = c.in_ok-put_over.ensures
