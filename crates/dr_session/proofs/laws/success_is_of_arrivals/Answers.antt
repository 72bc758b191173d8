use Rattle.dr_session.proofs.Storing.{answers_store, stores_are_answered, others_answer_no_store}
use Rattle.dr_session.proofs.laws.success_is_of_arrivals.Goals as goal

pub returns : goal.returns
returns g c = record {
  answers = answers_store g.P.DeskPort.step;
  turns = stores_are_answered g.P.DeskPort.step;
  others = others_answer_no_store g.P.DeskPort.step;
}
