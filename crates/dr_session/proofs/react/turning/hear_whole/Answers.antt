use Rattle.std.proofs.Common.{sym, ◌∙◌}
use Rattle.dr_session.proofs.InTurn.{on_err}
use Rattle.dr_session.proofs.Wanting.{broke_answering, done_answering}
use Rattle.dr_session.proofs.react.turning.hear_whole.Goals as goal

pub returns-clause-done : goal.returns-clause-done
returns-clause-done g c =
    done_answering g.P.DeskPort.step c.args.context c.args.of c.args.command c.args.at c.args.core c.in_ok-done.done c.args.port.now (sym c.is_requestor.ensures ∙ c.if-is_requestor.false) c.in_ok-done.ensures.done

pub returns-in_err-done-clause-broke : goal.returns-in_err-done-clause-broke
returns-in_err-done-clause-broke g c = on_err _ _
    (broke_answering g.P.DeskPort.step c.args.context c.args.of c.args.command c.args.at c.args.core c.args.port.now (sym c.is_requestor.ensures ∙ c.if-is_requestor.false) c.in_err-done.ensures.wants)
