use Rattle.dr_session.proofs.Storing.{answers_store}
use Rattle.dr_session.proofs.react.acceptor.store.Goals as goal

pub returns-clause-answered : goal.returns-clause-answered
returns-clause-answered g c =
    answers_store g.P.DeskPort.step c.args.core c.args.to.now.context c.args.to.now.of.now c.args.to.now.id c.args.class c.args.instance c.args.found c.args.port.now c.store_in.new.port c.in_ok-done.done c.in_ok-done.ensures.done
