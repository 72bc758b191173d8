use Rattle.std.proofs.Common.{map, ap, sym, ◌∙◌}
use Rattle.dr_world_script.proofs.Telling.{skip_at, tell_at, wrong_at}
use Rattle.dr_world_script.proofs.script.read_script.Goals as goal

pub loop-i-preserved-then-is_skipped : goal.loop-i-preserved-then-is_skipped
loop-i-preserved-then-is_skipped c =
    skip_at c.deref-line-items.result.now c.loop-i.i _ c.loop-i.acts.items c.loop-i-test.true c.loop-i.invariant (sym c.is_skipped.ensures ∙ c.if-is_skipped.true)

pub returns-in-Err-NoStep : goal.returns-in-Err-NoStep
returns-in-Err-NoStep c =
    wrong_at c.args.text.now c.deref-line-items.result.now c.loop-i.i _ c.loop-i.acts.items (ap (map (λ line. line.now)) c.deref-line-items.ensures.value ∙ c.in_ok-lines.ensures) c.loop-i-test.true c.loop-i.invariant
    (sym c.is_skipped.ensures ∙ c.if-is_skipped.false) (rw c.in-Err-NoStep.field-0-is at c.in-Err-NoStep.ensures)

pub loop-i-preserved : goal.loop-i-preserved
loop-i-preserved c =
    rw (c.in_ok-push-in-Ok.ensures.items) (tell_at c.deref-line-items.result.now c.loop-i.i _ c.loop-i.acts.items c.in-Ok.act c.loop-i-test.true c.loop-i.invariant (sym c.is_skipped.ensures ∙ c.if-is_skipped.false) c.in-Ok.ensures)
