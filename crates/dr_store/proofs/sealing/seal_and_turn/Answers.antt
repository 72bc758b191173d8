use Rattle.dr_store.specs.Sealing.{TurnsPast}
use Rattle.dr_store.proofs.sealing.seal_and_turn.Goals as goal

pub returns-in-Ok-clause-turned : goal.returns-in-Ok-clause-turned
returns-in-Ok-clause-turned g c = λ lines written. record {
  reach = c.turn_to.ensures.reach lines written;
  holds = c.turn_to.ensures.holds lines written;
  next = c.turn_to.ensures.next lines written;
  clean = c.turn_to.ensures.clean lines written;
}
