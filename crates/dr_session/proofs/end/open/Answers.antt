use Rattle.std.proofs.Common.{refl, ◌∙◌}
use Rattle.dr_session.proofs.Ending.{begin_as, requesting_as}
use Rattle.dr_session.proofs.end.open.Goals as goal

pub returns-clause-end : goal.returns-clause-end
returns-clause-end c =
    begin_as c.new-ear.result c.in_ok-core.core _ c.args.limit c.args.limit c.new-ear.ensures refl
    (c.in_ok-core.ensures ∙ (c.requestor.ensures ∙ requesting_as c.args.site c.in-Ok.peer c.args.peer.now c.in-Ok-write_request.written.0 c.args.proposal c.args.now c.in-Ok.ensures c.in-Ok-write_request.ensures.same))

pub returns-clause-actions : goal.returns-clause-actions
returns-clause-actions c = c.in-Ok-write_request.ensures.actions
