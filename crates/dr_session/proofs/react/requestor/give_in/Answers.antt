use Rattle.std.proofs.Common.{sym, ap, ◌∙◌}
use Rattle.dr_session.specs.declared.ends.Core.{Core}
use Rattle.dr_session.specs.Reactions.{id_after}
use Rattle.dr_session.proofs.Effects.{gave}
use Rattle.dr_session.proofs.react.requestor.give_in.Goals as goal

pub returns : goal.returns
returns c =
    gave c.act_once.result c.args.core c.await_response.result c.args.context c.next_id-id.result c.args.at c.args.job c.uid_of.result c.in_ok-action.action
    c.act_once.ensures (λ agreed some. c.in_ok-action.ensures agreed (ap (λ (x : Core). x.agreed) c.as_core-2.ensures ∙ some))
    (c.next_id-id.ensures ∙ ap (λ (x : Core). id_after x.last) c.as_core.ensures) c.await_response.ensures c.uid_of.ensures
