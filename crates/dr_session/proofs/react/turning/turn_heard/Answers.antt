use Rattle.std.proofs.Common.{Some, sym, ap, ◌∙◌}
use Rattle.dr_ulstate.specs.declared.step.Incoming.{Incoming}
use Rattle.dr_ulstate.specs.Phases.{event_of, is_acceptable}
use Rattle.dr_session.proofs.Acting.{heard_event, heard_taken}
use Rattle.dr_session.proofs.react.turning.turn_heard.Goals as goal

pub meet-requires-clause-event : goal.meet-requires-clause-event
meet-requires-clause-event g c =
    heard_event c.args.input c.args.at c.args.core c.requires.heard ∙ ap (λ (i : Incoming). Some (event_of i)) (sym c.incoming_of-incoming.ensures)

pub meet-requires-clause-taken : goal.meet-requires-clause-taken
meet-requires-clause-taken g c =
    heard_taken c.args.input c.args.at c.args.core c.requires.heard ∙ ap (λ (i : Incoming). is_acceptable i) (sym c.incoming_of-incoming.ensures)

pub returns-clause-done : goal.returns-clause-done
returns-clause-done g c = c.meet.ensures.done

pub returns-clause-broke : goal.returns-clause-broke
returns-clause-broke g c = c.meet.ensures.broke
