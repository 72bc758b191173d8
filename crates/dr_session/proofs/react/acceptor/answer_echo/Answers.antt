use Rattle.std.proofs.Common.{ℕ, false, arith, refl, ap}
use Rattle.dr_dimse.specs.declared.command.Command.TheVariants.{EchoRsp}
use Rattle.dr_dimse.proofs.FitLemmas.{echo_answer_fits}
use Rattle.dr_session.specs.Reactions.{says, echo_status}
use Rattle.dr_session.proofs.Effects.{acted}
use Rattle.dr_session.proofs.react.acceptor.answer_echo.Goals as goal

pub reply-requires : goal.reply-requires
reply-requires c = echo_answer_fits c.args.id c.echo_status.result c.args.class false false c.requires (omega arith)

pub returns : goal.returns
returns c =
    acted c.reply.result (says c.args.core c.args.context (EchoRsp c.args.id c.echo_status.result c.args.class false))
    (says c.args.core c.args.context (EchoRsp c.args.id (echo_status c.args.class c.args.of) c.args.class false)) c.args.core c.args.core
    c.reply.ensures (ap (λ (n : ℕ). says c.args.core c.args.context (EchoRsp c.args.id n c.args.class false)) c.echo_status.ensures) refl
