use Rattle.std.proofs.Common.{◌∙◌, Contains, List, drop, take, ap, subst}
use Rattle.dr_ledger_history.specs.declared.line.JournalLine.{JournalLine}
use Rattle.dr_word_audit_at.proofs.Reached.{and_later, any_later, any_long, between_cuts, reached_on, stays}
use Rattle.dr_word_audit_at.proofs.moving.move_by.Goals as goal

pub loop-place-init : goal.loop-place-init
loop-place-init c plan = stays plan c.args.read.now c.args.counts.now.items

pub move_for_all-requires-clause-same : goal.move_for_all-requires-clause-same
move_for_all-requires-clause-same c = any_long c.args.read.now c.args.counts.now.items c.loop-place.counts.items c.loop-place.invariant c.requires.same

pub move_for_all-requires-clause-before : goal.move_for_all-requires-clause-before
move_for_all-requires-clause-before c line there =
    let read = c.args.read.now in
    let first = c.args.counts.now.items in
    let now = c.loop-place.counts.items in
    let to = c.args.to.now in
    let i = c.loop-place.place in
    let node = c.index-read-place.result in
    let on = and_later to first now c.requires.on (any_later read first now c.loop-place.invariant) in
    let lines = c.between-lines.ensures ∙ ap (λ (ls : List JournalLine). drop c.count_at-begin.result (take c.count_at-end.result ls)) c.as_slice.ensures ∙ ap (λ n. drop c.count_at-begin.result (take n node.lines)) c.count_at-end.ensures in
    between_cuts to now read i c.count_at-begin.result _ node line on (any_long read first now c.loop-place.invariant c.requires.same) c.loop-place-test.true c.index-read-place.is
    (subst (λ (ls : List JournalLine). Contains ls line) lines there)

pub loop-place-preserved : goal.loop-place-preserved
loop-place-preserved c plan =
    reached_on plan c.args.read.now c.args.counts.now.items c.loop-place.counts.items c.move_for_all.new.counts.items (c.loop-place.invariant plan) (c.in_ok-move_for_all.ensures plan)
