use Rattle.std.proofs.Common.{ap, ◌∙◌, [], ◌∷◌}
use Rattle.dr_ulstate.specs.declared.table.Event.TheVariants.{AbortRequest}
use Rattle.dr_session.specs.declared.ends.Core.{Core}
use Rattle.dr_session.specs.Reactions.{abort_pdu, aborted, left, stepped_by, write}
use Rattle.dr_session.proofs.Effects.{acted_ready}
use Rattle.dr_session.proofs.react.leaving.abort_idle.Goals as goal

pub returns : goal.returns
returns c =
    acted_ready c.args.acts (write (abort_pdu 0 0 ∷ []) ∷ []) c.mark_aborted.result (aborted (left (stepped_by AbortRequest c.args.at.now c.args.core)))
    c.requires
    (c.mark_aborted.ensures ∙ ap (λ (x : Core). aborted x) (c.leave_pending-core.ensures ∙ ap (λ (x : Core). left x) c.abort.ensures))
