use Rattle.std.proofs.Common.{◌∙◌, List, ℕ, subst, sym}
use Rattle.dr_word_audit_at.specs.Cuts.{AreNoEarlier}
use Rattle.dr_word_audit_at.proofs.Reached.{any_long, no_earlier, reached_on}
use Rattle.dr_word_audit_at.proofs.moving.first_cuts.Goals as goal

pub move_by-requires-clause-same : goal.move_by-requires-clause-same
move_by-requires-clause-same c = any_long c.args.read.now c.args.first.now c.loop-round.counts.items c.loop-round.invariant c.requires

pub move_by-requires-clause-on : goal.move_by-requires-clause-on
move_by-requires-clause-on c =
    let same = c.as_slice-in-loop-round-2.ensures.value ∙ c.in_ok-to.ensures.items ∙ c.as_slice.ensures.value in
    subst (λ (ns : List ℕ). AreNoEarlier ns c.loop-round.counts.items) (sym same) (no_earlier c.loop-round.counts.items)

pub loop-round-preserved : goal.loop-round-preserved
loop-round-preserved c plan =
    reached_on plan c.args.read.now c.args.first.now c.loop-round.counts.items c.move_by.new.counts.items (c.loop-round.invariant plan) (c.in_ok-move_by.ensures plan)

pub returns-then-eq : goal.returns-then-eq
returns-then-eq c plan =
    reached_on plan c.args.read.now c.args.first.now c.loop-round.counts.items c.move_by.new.counts.items (c.loop-round.invariant plan) (c.in_ok-move_by.ensures plan)
