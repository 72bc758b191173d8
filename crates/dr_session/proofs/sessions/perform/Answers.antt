use Rattle.std.proofs.Common.{ℕ, ◌≤◌, Bool, true, false, length, refl, sym, subst, rules, arith}
use Rattle.std.proofs.lemmas.Bool.{false≢true}
use Rattle.dr_session.specs.Links.{PerformsOne}
use Rattle.dr_session.proofs.Serving.{toward_next, toward_fault, toward_end, risen_later}
use Rattle.dr_session.proofs.sessions.perform.Goals as goal

pub loop-action-init : goal.loop-action-init
loop-action-init g c = (((λ t h. h), (λ t h. h)), omega arith)

pub loop-action-preserved : goal.loop-action-preserved
loop-action-preserved g c =
    let P : Bool → Type 0 = λ b. PerformsOne g.L.Link.sends g.L.Link.closes b c.loop-action.link c.action-item.result c.perform_one.new.link in (
      toward_next g.L.Link.sends g.L.Link.closes c.args.link.now c.loop-action.link c.perform_one.new.link c.args.actions.now c.loop-action.action-index c.action-item.result c.action-item.result
          c.loop-action-test.true c.loop-action.invariant.0 c.action-item.is (subst P c.if-not-perform_one.false c.perform_one.ensures.performs),
      omega (arith, c.loop-action.invariant.1, c.perform_one.ensures.counts.0),
    )

pub returns-then-not-perform_one-clause-performs : goal.returns-then-not-perform_one-clause-performs
returns-then-not-perform_one-clause-performs g c =
    let P : Bool → Type 0 = λ b. PerformsOne g.L.Link.sends g.L.Link.closes b c.loop-action.link c.action-item.result c.perform_one.new.link in
    toward_fault g.L.Link.sends g.L.Link.closes c.args.link.now c.loop-action.link c.perform_one.new.link c.args.actions.now c.loop-action.action-index c.action-item.result c.action-item.result
    c.loop-action-test.true c.loop-action.invariant.0 c.action-item.is (subst P c.if-not-perform_one.true c.perform_one.ensures.performs)

pub returns-then-not-perform_one-clause-counts : goal.returns-then-not-perform_one-clause-counts
returns-then-not-perform_one-clause-counts g c = (
  omega (arith, c.loop-action.invariant.1, c.perform_one.ensures.counts.0),
  λ e. risen_later (g.L.Link.failed c.args.link.now) (g.L.Link.failed c.loop-action.link) (g.L.Link.failed c.perform_one.new.link) c.loop-action.invariant.1 (c.perform_one.ensures.counts.1 c.if-not-perform_one.true),
)

pub returns-clause-performs : goal.returns-clause-performs
returns-clause-performs g c =
    let high : length c.args.actions.now ≤ c.loop-action.action-index = search rules in
    toward_end g.L.Link.sends g.L.Link.closes c.args.link.now c.loop-action.link c.args.actions.now c.loop-action.action-index high c.loop-action.invariant.0

pub returns-clause-counts : goal.returns-clause-counts
returns-clause-counts g c = (c.loop-action.invariant.1, λ e. absurd (false≢true (sym e)))
