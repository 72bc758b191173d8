use Rattle.std.proofs.Common.{take}
use Rattle.dr_desk.specs.Paging.{IsLeastFrom}
use Rattle.dr_desk.proofs.paging.least_from.Given as goal

abbrev pub invariant-loop-number : goal.invariant-loop-number
invariant-loop-number l = IsLeastFrom l.from (take l.number-index l.all) l.least
