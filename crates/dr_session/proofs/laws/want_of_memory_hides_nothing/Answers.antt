use Rattle.dr_session.proofs.Hiding.{quiet_turns_end, settlings_are_told, pushes_are_told, refusals_are_told, quiet_inputs_end, quiet_pieces_end}
use Rattle.dr_session.proofs.laws.want_of_memory_hides_nothing.Goals as goal

pub returns : goal.returns
returns g c = record {
  quiet = quiet_turns_end g.P.DeskPort.step;
  settlings = settlings_are_told g.P.DeskPort.step;
  pushes = pushes_are_told g.P.DeskPort.step;
  refusals = refusals_are_told g.P.DeskPort.step;
  inputs = quiet_inputs_end g.P.DeskPort.step;
  pieces = quiet_pieces_end g.P.DeskPort.step;
}
