use Rattle.std.specs.Prelude.{map}
use Rattle.std.specs.Vec.Iter.{into_iter_items}
use Rattle.dr_session.specs.declared.ends.Input.TheVariants.{Value}
use Rattle.dr_session.specs.Plays.{at_moment}
use Rattle.dr_session.proofs.InTurn.{Toward}
use Rattle.dr_session.proofs.hearing.hear_values.Given as goal

abbrev pub invariant-loop-pdv : goal.invariant-loop-pdv
invariant-loop-pdv g l = Toward g.P.DeskPort.step l.fn.core (map (at_moment l.at) (map Value l.fn.pdvs.items)) l.fn.port l.acts l.core
    (map (at_moment l.at) (map Value (into_iter_items l.pdv-iterator))) l.port
