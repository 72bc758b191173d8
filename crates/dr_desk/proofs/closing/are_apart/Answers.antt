use Rattle.std.proofs.Common.{sym, ◌∙◌, get_or}
use mathlib.Core.Bool.{true≢false}
use Rattle.std.proofs.lemmas.List.{get_or_default}
use Rattle.dr_desk.proofs.Apart.{none_apart, none_has, goes_on, twice, was_not, was_there}
use Rattle.dr_desk.proofs.closing.are_apart.Goals as goal

pub loop-number-init : goal.loop-number-init
loop-number-init c = record { has = none_has _ c.new-seen.ensures.empty; apart = none_apart }

pub returns-then-not-branch : goal.returns-then-not-branch
returns-then-not-branch c =
    let i = c.loop-number.number-index in
    let all = c.args.all.now in
    let there = was_there _ _ c.in_ok-insert.ensures.added c.if-not-branch.true in (
      (λ t. absurd (true≢false (sym t))),
      (λ d. absurd (twice all i (get_or all i 0) c.loop-number-test.true (sym (get_or_default all i _ 0 c.loop-number-test.true)) (sym (c.loop-number.invariant.has _) ∙ there) d)),
    )

pub loop-number-preserved : goal.loop-number-preserved
loop-number-preserved c =
    let next = goes_on c.args.all.now c.loop-number.number-index c.loop-number.seen c.insert.new.self c.loop-number-test.true c.loop-number.invariant.has c.loop-number.invariant.apart
    (was_not _ _ c.in_ok-insert.ensures.added c.if-not-branch.false) c.in_ok-insert.ensures.updates in
    record { has = next.0; apart = next.1 }
