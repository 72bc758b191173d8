use Rattle.std.specs.Prelude.{map}
use Rattle.std.specs.List.{flat_map, AllByRecursion}
use Rattle.std.specs.Vec.Iter.{into_iter_items}
use Rattle.dr_session.specs.Fits.{PduFits}
use Rattle.dr_session.specs.Plays.{at_moment, inputs_of}
use Rattle.dr_session.proofs.InTurn.{Toward}
use Rattle.dr_session.proofs.hearing.hear_pdus.Given as goal

abbrev pub invariant-loop-pdu : goal.invariant-loop-pdu
invariant-loop-pdu g l = AllByRecursion PduFits (into_iter_items l.pdu-iterator)
    × Toward g.P.DeskPort.step l.fn.core (map (at_moment l.at) (flat_map inputs_of l.fn.pdus.items)) l.fn.port l.acts l.core
    (map (at_moment l.at) (flat_map inputs_of (into_iter_items l.pdu-iterator))) l.port
