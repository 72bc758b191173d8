use Rattle.std.proofs.Common.{take}
use Rattle.dr_cert_diff.specs.Going.{Adds, At, Over, cell_at}
use Rattle.dr_cert_diff.proofs.going.over_stations.Given as goal

abbrev pub invariant-loop-station : goal.invariant-loop-station
invariant-loop-station l = Adds l.fn.both.old.now.plan l.fn.both.new.now.plan (Over (take l.station-index l.fn.parts.stations.items) (λ station. At l.fn.both.old.now.plan l.fn.both.new.now.plan l.fn.site (cell_at l.fn.pair.class.now l.fn.pair.syntax l.fn.modality station))) l.initial.changes.items l.changes.items
