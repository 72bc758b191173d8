use Rattle.std.proofs.Common.{◌∙◌, sym}
use Rattle.dr_word_audit_at.proofs.CutJournals.{is_next, one_more}
use Rattle.dr_word_audit_at.proofs.cutting.count_to.Goals as goal

pub loop-i-preserved : goal.loop-i-preserved
loop-i-preserved c = one_more c.args.missing.now c.args.lines.now c.loop-i.i _ c.index-lines-i.result c.loop-i-test.true c.index-lines-i.is c.loop-i.invariant (sym c.mends.ensures ∙ c.if-mends.false)

pub returns-then-mends : goal.returns-then-mends
returns-then-mends c = is_next c.args.missing.now c.args.lines.now c.loop-i.i _ c.index-lines-i.result c.loop-i-test.true c.index-lines-i.is c.loop-i.invariant (sym c.mends.ensures ∙ c.if-mends.true)
