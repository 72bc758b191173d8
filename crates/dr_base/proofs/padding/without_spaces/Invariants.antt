use Rattle.std.proofs.Common.{◌≡◌, length}
use Rattle.dr_base.specs.Padding.{without_spaces}
use Rattle.dr_base.proofs.padding.without_spaces.Given as goal

abbrev pub invariant-loop-text : goal.invariant-loop-text
invariant-loop-text l = without_spaces l.text ≡ without_spaces l.bytes

abbrev pub decreases-loop-text : goal.decreases-loop-text
decreases-loop-text l = length l.text
