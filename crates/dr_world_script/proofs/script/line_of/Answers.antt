use Rattle.std.proofs.Common.{map, ap, sym, ◌∙◌, arith}
use Rattle.dr_world_script.proofs.Placing.{found_at, none_left, skipped_more, told_more}
use Rattle.dr_world_script.proofs.script.line_of.Goals as goal

pub loop-i-preserved-then-is_skipped : goal.loop-i-preserved-then-is_skipped
loop-i-preserved-then-is_skipped c =
    let same = skipped_more c.deref-line-items.result.now c.loop-i.i _ c.loop-i-test.true (sym c.is_skipped.ensures ∙ c.if-is_skipped.true) in
    omega (arith, same, c.loop-i.invariant)

pub loop-i-preserved : goal.loop-i-preserved
loop-i-preserved c =
    let more = told_more c.deref-line-items.result.now c.loop-i.i _ c.loop-i-test.true (sym c.is_skipped.ensures ∙ c.if-is_skipped.false) in
    omega (arith, more, c.loop-i.invariant, c.if-left-eq0.false)

pub returns-then-left-eq0 : goal.returns-then-left-eq0
returns-then-left-eq0 c =
    found_at c.args.text.now c.args.place c.deref-line-items.result.now c.loop-i.i _ (ap (map (λ line. line.now)) c.deref-line-items.ensures.value ∙ c.in_ok-lines.ensures) c.loop-i-test.true (sym c.is_skipped.ensures ∙ c.if-is_skipped.false)
    (omega (arith, c.loop-i.invariant, c.if-left-eq0.true))

pub unreachable-unreachable : goal.unreachable-unreachable
unreachable-unreachable c =
    let all = none_left c.args.text.now c.deref-line-items.result.now c.loop-i.i (ap (map (λ line. line.now)) c.deref-line-items.ensures.value ∙ c.in_ok-lines.ensures) (omega (arith, c.loop-i-test.false)) in
    omega (arith, all, c.loop-i.invariant, c.requires)
