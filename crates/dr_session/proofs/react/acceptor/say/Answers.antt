use Rattle.std.proofs.Common.{ℕ, ap, ◌∙◌}
use Rattle.dr_nego.specs.declared.agreed.Agreed.{Agreed}
use Rattle.dr_session.specs.Messages.{command_pdus}
use Rattle.dr_session.specs.Reactions.{write}
use Rattle.dr_session.proofs.react.acceptor.say.Goals as goal

pub returns : goal.returns
returns c =
    c.in_ok-action.ensures ∙ (ap (λ (a : Agreed). write (command_pdus a.limit c.args.context c.args.command)) c.new-terms.ensures
    ∙ ap (λ (n : ℕ). write (command_pdus n c.args.context c.args.command)) c.limit_of.ensures.limit)
