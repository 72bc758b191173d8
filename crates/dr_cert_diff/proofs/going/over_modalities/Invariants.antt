use Rattle.std.proofs.Common.{take}
use Rattle.dr_cert_diff.specs.Going.{Adds, AtModality, Over}
use Rattle.dr_cert_diff.proofs.going.over_modalities.Given as goal

abbrev pub invariant-loop-modality : goal.invariant-loop-modality
invariant-loop-modality l = Adds l.fn.both.old.now.plan l.fn.both.new.now.plan (Over (take l.modality-index l.fn.parts.modalities.items) (AtModality l.fn.both.old.now.plan l.fn.both.new.now.plan l.fn.site l.fn.pair.class.now l.fn.pair.syntax l.fn.parts.stations.items)) l.initial.changes.items l.changes.items
