use Rattle.std.specs.Prelude.{reverse}
use Rattle.dr_check.specs.Stacks.{IsTop, IsStack, left_to_do}
use Rattle.dr_check.proofs.search.reach.Given as goal

abbrev pub invariant-search : goal.invariant-search
invariant-search l = record {
  top : IsTop l.plan l.cell l.top l.search;
  stack : IsStack l.plan l.cell l.fn.search l.caller l.node (reverse l.below.items) l.top l.search;
}

abbrev pub decreases-search : goal.decreases-search
decreases-search l = left_to_do l.search l.below.items
