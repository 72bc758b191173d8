use Rattle.std.proofs.Common.{length}
use Rattle.dr_base.specs.Runs.{Run}
use Rattle.dr_dimse.specs.Commands.{StartsCommandElement}
use Rattle.dr_dimse.specs.Reads.{elements}
use Rattle.dr_dimse.proofs.elements.elements_of.Given as goal

abbrev pub invariant-loop-rest : goal.invariant-loop-rest
invariant-loop-rest l = Run StartsCommandElement (elements l.found.items) l.text l.rest

abbrev pub decreases-loop-rest : goal.decreases-loop-rest
decreases-loop-rest l = length l.rest
