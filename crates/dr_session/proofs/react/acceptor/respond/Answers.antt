use Rattle.std.proofs.Common.{false, arith}
use Rattle.dr_dimse.proofs.FitLemmas.{store_answer_fits}
use Rattle.dr_session.proofs.react.acceptor.respond.Goals as goal

pub reply-requires : goal.reply-requires
reply-requires c = store_answer_fits c.args.to.now.id c.args.status c.args.class c.args.instance false c.requires (omega arith)
