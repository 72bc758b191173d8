use Rattle.std.proofs.Common.{sym, ap, ◌∙◌, inl, refl}
use Rattle.dr_session.specs.declared.ends.Input.TheVariants.{Request}
use Rattle.dr_session.specs.declared.ends.Told.TheVariants.{Plain}
use Rattle.dr_session.specs.declared.ends.Core.{Core}
use Rattle.dr_session.specs.Reactions.{is_taken_at}
use Rattle.dr_session.proofs.InTurn.{on_err}
use Rattle.dr_session.proofs.Wanting.{off_by}
use Rattle.dr_session.proofs.react.turning.meet_request.Goals as goal

pub returns-in_err-acceptable-clause-broke : goal.returns-in_err-acceptable-clause-broke
returns-in_err-acceptable-clause-broke g c = on_err _ _ (inl (tt, refl))

pub meet-requires-clause-taken : goal.meet-requires-clause-taken
meet-requires-clause-taken g c = sym (c.in_ok-acceptable.ensures ∙ ap (λ (x : Core). is_taken_at x.site c.args.rq c.args.at) c.as_core.ensures)

pub returns-clause-done : goal.returns-clause-done
returns-clause-done g c = c.meet.ensures.done

pub returns-clause-broke : goal.returns-clause-broke
returns-clause-broke g c = off_by g.P.DeskPort.step c.args.at c.args.core (Plain (Request c.args.rq)) c.meet.result c.args.port.now c.meet.new.port c.meet.ensures.broke
