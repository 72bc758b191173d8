use Rattle.std.proofs.Common.{refl, ap, ◌∙◌}
use Rattle.dr_session.specs.declared.ends.Core.{Core}
use Rattle.dr_session.specs.Reactions.{says}
use Rattle.dr_session.proofs.Effects.{acted}
use Rattle.dr_session.proofs.react.acceptor.reply.Goals as goal

pub returns : goal.returns
returns c =
    acted c.act_once.result c.in_ok-action.action (says c.args.core c.args.context c.args.command) c.args.core c.args.core c.act_once.ensures
    (c.in_ok-action.ensures ∙ ap (λ (x : Core). says x c.args.context c.args.command) c.as_core.ensures) refl
