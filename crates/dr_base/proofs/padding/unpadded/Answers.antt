use Rattle.std.proofs.Common.{sym, ◌∙◌}
use Rattle.dr_base.proofs.PadLemmas.{unpadded_goes_on, unpadded_ends}
use Rattle.dr_base.proofs.padding.unpadded.Goals as goal

pub loop-text-preserved : goal.loop-text-preserved
loop-text-preserved c = unpadded_goes_on c.loop-text.text.now c.in-len1-up.len_at_least (sym c.is_pad.ensures ∙ c.if-not-is_pad.false) ∙ c.loop-text.invariant

pub returns-then-not-is_pad : goal.returns-then-not-is_pad
returns-then-not-is_pad c = sym (unpadded_ends c.loop-text.text.now c.in-len1-up.len_at_least (sym c.is_pad.ensures ∙ c.if-not-is_pad.true)) ∙ c.loop-text.invariant
