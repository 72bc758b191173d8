use Rattle.std.proofs.Common.{List, refl, sym, subst, ap, ◌∙◌, false, arith}
use Rattle.dr_base.specs.Texts.{Text}
use Rattle.dr_dimse.specs.declared.command.Command.TheVariants.{EchoRq}
use Rattle.dr_dimse.specs.Written.{IsText}
use Rattle.dr_session.specs.Messages.{command_pdus}
use Rattle.dr_session.specs.Reactions.{write}
use Rattle.dr_session.proofs.echoing.write_echo.Goals as goal

pub write_response-requires : goal.write_response-requires
write_response-requires c = (c.ranges.id.fits, subst IsText (sym c.in_ok-class.ensures) (refl, omega arith))

pub returns : goal.returns
returns c = c.in_ok-action.ensures ∙ ap (λ (t : Text). write (command_pdus c.args.agreed.now.limit c.args.context (EchoRq c.args.id t false))) c.in_ok-class.ensures
