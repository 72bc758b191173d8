use Rattle.std.proofs.Common.{List, Bool, true, false, Result, Ok, refl, subst}
use Rattle.dr_session.specs.declared.ends.LinkAction.{LinkAction}
use Rattle.dr_session.specs.Sessions.{place_of}
use Rattle.dr_session.specs.Links.{PerformsOr, place}
use Rattle.dr_session.proofs.Serving.{carries_memory, memory_counts, no_failure}
use Rattle.dr_session.proofs.sessions.Session.carry_out.Goals as goal

pub returns-then-perform-clause-does : goal.returns-then-perform-clause-does
returns-then-perform-clause-does g c =
    let P : Bool → Type 0 = λ b. PerformsOr g.L.Link.sends g.L.Link.closes b c.args.self.now.link.now c.as_slice.result.now c.perform.new.link in
    let Q : List LinkAction → Type 0 = λ l. PerformsOr g.L.Link.sends g.L.Link.closes true c.args.self.now.link.now l c.perform.new.link in
    (subst Q c.as_slice.ensures (subst P c.if-perform.true c.perform.ensures.performs), refl, refl)

pub returns-then-perform-clause-counts : goal.returns-then-perform-clause-counts
returns-then-perform-clause-counts g c = (c.perform.ensures.counts.0, λ f. absurd f)

pub returns-in_err-_dropped-clause-does : goal.returns-in_err-_dropped-clause-does
returns-in_err-_dropped-clause-does g c =
    let P : Bool → Type 0 = λ b. PerformsOr g.L.Link.sends g.L.Link.closes b c.args.self.now.link.now c.as_slice.result.now c.perform.new.link in
    let Q : List LinkAction → Type 0 = λ l. PerformsOr g.L.Link.sends g.L.Link.closes false c.args.self.now.link.now l c.perform.new.link in
    carries_memory g.L.Link.hears g.L.Link.sends g.L.Link.closes g.P.DeskPort.step (λ n. Unit {0}) 0 c.args.at c.args.actions c.in_err-_dropped.field-0.0 (place_of c.args.self.now c.args.end.now)
    (place c.perform.new.link c.hear.new.port c.hear.new.self) c.from_residual.result c.from_residual.ensures.0 c.from_residual.ensures.1
    (subst Q c.as_slice.ensures (subst P c.if-perform.false c.perform.ensures.performs)) c.in_err-_dropped.ensures

pub returns-in_err-_dropped-clause-counts : goal.returns-in_err-_dropped-clause-counts
returns-in_err-_dropped-clause-counts g c = memory_counts c.from_residual.result _ _ c.from_residual.ensures.0 c.from_residual.ensures.1 c.perform.ensures.counts.0

pub returns-clause-does : goal.returns-clause-does
returns-clause-does g c =
    let P : Bool → Type 0 = λ b. PerformsOr g.L.Link.sends g.L.Link.closes b c.args.self.now.link.now c.as_slice.result.now c.perform.new.link in
    let Q : List LinkAction → Type 0 = λ l. PerformsOr g.L.Link.sends g.L.Link.closes false c.args.self.now.link.now l c.perform.new.link in
    (subst Q c.as_slice.ensures (subst P c.if-perform.false c.perform.ensures.performs), (c.in_ok-_dropped._dropped, c.in_ok-_dropped.ensures))

pub returns-clause-counts : goal.returns-clause-counts
returns-clause-counts g c = (c.perform.ensures.counts.0, λ f. c.perform.ensures.counts.1 c.if-perform.false)

pub returns-then-perform-clause-keeps : goal.returns-then-perform-clause-keeps
returns-then-perform-clause-keeps g c = (refl, refl, refl, refl)

pub returns-in_err-_dropped-clause-keeps : goal.returns-in_err-_dropped-clause-keeps
returns-in_err-_dropped-clause-keeps g c = (refl, refl, refl, refl)

pub returns-clause-keeps : goal.returns-clause-keeps
returns-clause-keeps g c = (refl, refl, refl, refl)
