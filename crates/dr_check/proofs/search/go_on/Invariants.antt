use Rattle.std.proofs.Common.{◌-◌, length}
use Rattle.dr_check.specs.Stacks.{IsTop, IsSameFrame}
use Rattle.dr_check.proofs.search.go_on.Given as goal

abbrev pub invariant-loop-frame : goal.invariant-loop-frame
invariant-loop-frame l = record {
  same : IsSameFrame l.initial.frame l.frame;
  top : IsTop l.plan l.cell l.frame l.search;
}

abbrev pub decreases-loop-frame : goal.decreases-loop-frame
decreases-loop-frame l = length l.frame.targets - l.frame.searched
