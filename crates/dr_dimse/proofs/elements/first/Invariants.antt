use Rattle.std.proofs.Common.{◌≡◌, drop}
use Rattle.dr_dimse.specs.Commands.{first_value}
use Rattle.dr_dimse.specs.Reads.{elements}
use Rattle.dr_dimse.proofs.elements.first.Given as goal

abbrev pub invariant-loop-element : goal.invariant-loop-element
invariant-loop-element l = first_value l.number (elements (drop l.element-index l.found)) ≡ first_value l.number (elements l.found)
