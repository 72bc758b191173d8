use Rattle.std.proofs.lemmas.Bool.{false≢true}
use Rattle.dr_plan_text.proofs.Repeats.{seen_one_more, seen_again}
use Rattle.dr_plan_text.proofs.fields.are_apart.Goals as goal

pub returns-then-not-branch : goal.returns-then-not-branch
returns-then-not-branch c = (
  λ h. absurd (false≢true h),
  λ apart. absurd (seen_again c.loop-text.seen c.args.texts.now c.loop-text.text-index c.text-item.result c.in_ok-clone.field-0 c.in_ok-insert.field-0 c.loop-text-test.true c.text-item.is
      c.in_ok-clone.ensures c.loop-text.invariant c.in_ok-insert.ensures.added c.if-not-branch.true apart),
)

pub loop-text-preserved : goal.loop-text-preserved
loop-text-preserved c = seen_one_more c.loop-text.seen c.insert.new.self c.args.texts.now c.loop-text.text-index c.text-item.result c.in_ok-clone.field-0 c.in_ok-insert.field-0 c.loop-text-test.true
    c.text-item.is c.in_ok-clone.ensures c.loop-text.invariant c.in_ok-insert.ensures.updates c.in_ok-insert.ensures.added c.if-not-branch.false
