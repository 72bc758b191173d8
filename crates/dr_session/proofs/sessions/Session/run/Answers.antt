use Rattle.std.proofs.Common.{◌≡◌, ◌<◌, ◌≤◌, ◌+◌, ℕ, Option, Some, None, Result, Ok, Err, refl, sym, subst, ◌∙◌, rules, arith}
use Rattle.dr_session.specs.Sessions.{place_of}
use Rattle.dr_session.specs.Links.{GoesOn, IsWished}
use Rattle.dr_session.proofs.Keeping.{kept_on, as_kept}
use Rattle.dr_session.proofs.Serving.{so_far, more_done_as, ends_over, ends_stopped, failure_same, finish_counts, counts_later}
use Rattle.dr_session.proofs.sessions.Session.run.Goals as goal

pub loop-done-init : goal.loop-done-init
loop-done-init g c =
    (so_far g.L.Link.hears g.L.Link.sends g.L.Link.closes g.P.DeskPort.step (g.C.Clock.tells c.args.self.now.clock.now) c.args.self.now.others c.args.kind (place_of c.args.self.now c.args.end.now), omega arith, (refl, refl, refl, refl))

pub loop-done-preserved : goal.loop-done-preserved
loop-done-preserved g c =
    let G : (ℕ → Type 0) → ℕ → Type 0 = λ tells n. GoesOn g.L.Link.hears g.L.Link.sends g.L.Link.closes g.P.DeskPort.step tells n (IsWished c.next_wish-wish.result) (Ok tt) (place_of c.loop-done.self c.loop-done.end) (place_of c.go_on.new.self c.go_on.new.end) in (
      more_done_as g.L.Link.hears g.L.Link.sends g.L.Link.closes g.P.DeskPort.step (g.C.Clock.tells c.args.self.now.clock.now) c.args.self.now.others c.args.kind c.next_wish-wish.result (place_of c.args.self.now c.args.end.now)
          (place_of c.loop-done.self c.loop-done.end) (place_of c.go_on.new.self c.go_on.new.end) c.loop-done._done c.loop-done.reads c.loop-done.asked c.count_reads-reads.result c.count_asked-asked.result
          c.loop-done.invariant.0 (sym c.over.ensures ∙ c.in_default.is) c.next_wish-wish.ensures (omega (arith, c.loop-done.invariant.0.below, c.if-reads-eq-MOST_READS.false)) (as_kept G g.C.Clock.tells c.args.self.now c.loop-done.self c.loop-done.invariant.2 c.in_ok-go_on.ensures.does)
          c.count_reads-reads.ensures c.count_asked-asked.ensures,
      omega (arith, c.loop-done.invariant.1, c.go_on.ensures.counts.0),
      kept_on c.args.self.now c.loop-done.self c.go_on.new.self c.loop-done.invariant.2 c.go_on.ensures.keeps,
    )

pub count_reads-reads-requires : goal.count_reads-reads-requires
count_reads-reads-requires g c = omega (arith, c.loop-done.invariant.0.below, c.if-reads-eq-MOST_READS.false)

pub count_asked-asked-requires : goal.count_asked-asked-requires
count_asked-asked-requires g c = c.loop-done.invariant.0.few

pub returns-in_err-go_on-clause-ends : goal.returns-in_err-go_on-clause-ends
returns-in_err-go_on-clause-ends g c =
    let G : (ℕ → Type 0) → ℕ → Type 0 = λ tells n. GoesOn g.L.Link.hears g.L.Link.sends g.L.Link.closes g.P.DeskPort.step tells n (IsWished c.next_wish-wish.result) (Err c.in_err-go_on.field-0.0) (place_of c.loop-done.self c.loop-done.end) (place_of c.go_on.new.self c.go_on.new.end) in
    ends_stopped g.L.Link.hears g.L.Link.sends g.L.Link.closes g.P.DeskPort.step (g.C.Clock.tells c.args.self.now.clock.now) c.args.self.now.others c.args.kind c.next_wish-wish.result c.in_err-go_on.field-0.0 c.from_residual.result
    (place_of c.args.self.now c.args.end.now) (place_of c.loop-done.self c.loop-done.end) (place_of c.go_on.new.self c.go_on.new.end) c.loop-done._done c.loop-done.reads c.loop-done.asked
    c.loop-done.invariant.0 c.next_wish-wish.ensures c.from_residual.ensures.0 c.from_residual.ensures.1 (as_kept G g.C.Clock.tells c.args.self.now c.loop-done.self c.loop-done.invariant.2 c.in_err-go_on.ensures.does)

pub returns-in_err-go_on-clause-counts : goal.returns-in_err-go_on-clause-counts
returns-in_err-go_on-clause-counts g c =
    counts_later _ _ _ _ c.loop-done.invariant.1 (failure_same (Unit {0}) c.from_residual.result c.in_err-go_on.field-0.0 _ _ c.from_residual.ensures.0 c.from_residual.ensures.1 c.in_err-go_on.ensures.counts)

pub returns-in-Some-clause-ends : goal.returns-in-Some-clause-ends
returns-in-Some-clause-ends g c =
    ends_over g.L.Link.hears g.L.Link.sends g.L.Link.closes g.P.DeskPort.step (g.C.Clock.tells c.args.self.now.clock.now) c.args.self.now.others c.args.kind c.in-Some.over c.finish.result
    (place_of c.args.self.now c.args.end.now) (place_of c.loop-done.self c.loop-done.end) c.loop-done._done c.loop-done.reads c.loop-done.asked
    c.loop-done.invariant.0 (sym c.over.ensures ∙ c.in-Some.is) c.finish.ensures

pub returns-in-Some-clause-counts : goal.returns-in-Some-clause-counts
returns-in-Some-clause-counts g c = finish_counts c.in-Some.over c.finish.result _ _ c.finish.ensures c.loop-done.invariant.1

pub returns-then-reads-eq-MOST_READS-clause-ends : goal.returns-then-reads-eq-MOST_READS-clause-ends
returns-then-reads-eq-MOST_READS-clause-ends g c =
    (c.loop-done.invariant.0.doings, c.loop-done.asked, c.loop-done.end, c.loop-done.invariant.0.served, c.loop-done.invariant.0.reads_are ∙ c.if-reads-eq-MOST_READS.true)

pub returns-then-reads-eq-MOST_READS-clause-counts : goal.returns-then-reads-eq-MOST_READS-clause-counts
returns-then-reads-eq-MOST_READS-clause-counts g c = (c.loop-done.invariant.1, λ f. absurd f)

pub returns-clause-ends : goal.returns-clause-ends
returns-clause-ends g c =
    let past : 1099511693313 ≤ c.loop-done._done = search rules in
    let h = c.loop-done.invariant.0 in
    absurd (omega (arith, past, h.counted, h.below, h.few))

pub returns-clause-counts : goal.returns-clause-counts
returns-clause-counts g c = (c.loop-done.invariant.1, λ f. absurd f)

pub returns-in_err-go_on-clause-keeps : goal.returns-in_err-go_on-clause-keeps
returns-in_err-go_on-clause-keeps g c = kept_on c.args.self.now c.loop-done.self c.go_on.new.self c.loop-done.invariant.2 c.in_err-go_on.ensures.keeps

pub returns-in-Some-clause-keeps : goal.returns-in-Some-clause-keeps
returns-in-Some-clause-keeps g c = c.loop-done.invariant.2

pub returns-then-reads-eq-MOST_READS-clause-keeps : goal.returns-then-reads-eq-MOST_READS-clause-keeps
returns-then-reads-eq-MOST_READS-clause-keeps g c = c.loop-done.invariant.2

pub returns-clause-keeps : goal.returns-clause-keeps
returns-clause-keeps g c = c.loop-done.invariant.2
