use Rattle.std.proofs.Common.{◌≡◌, length}
use Rattle.dr_base.specs.Padding.{unpadded}
use Rattle.dr_base.proofs.padding.unpadded.Given as goal

abbrev pub invariant-loop-text : goal.invariant-loop-text
invariant-loop-text l = unpadded l.text ≡ unpadded l.bytes

abbrev pub decreases-loop-text : goal.decreases-loop-text
decreases-loop-text l = length l.text
