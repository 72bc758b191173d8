use Rattle.std.proofs.Common.{inl}
use Rattle.dr_word_route.proofs.Told.{nothing_added}
use Rattle.dr_word_route.proofs.asking.Asker.ask_sealed.Goals as goal

pub returns-in-Err : goal.returns-in-Err
returns-in-Err g c = inl (record {
  fault = c.in-Err.fault;
  right = λ other. (c.in-Err.ensures other, c.in_ok-status-in-Err.ensures.refused other);
  memory = λ is. c.in_ok-status-in-Err.ensures.memory is;
  nothing = nothing_added (g.W.Write.contents c.args.self.output.now);
})
