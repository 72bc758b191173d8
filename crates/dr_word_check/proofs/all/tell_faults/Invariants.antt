use Rattle.std.proofs.Common.{take}
use Rattle.std.specs.Prelude.{flat_map}
use Rattle.std.specs.Io.KnownBytes.{Appends}
use Rattle.dr_word_check.specs.Faults.{no_line}
use Rattle.dr_word_check.proofs.all.tell_faults.Given as goal

abbrev pub invariant-loop-fault : goal.invariant-loop-fault
invariant-loop-fault g l = Appends (g.W.Write.contents l.initial.output)
    (g.W.Write.contents l.output) (flat_map no_line (take l.fault-index l.found))
