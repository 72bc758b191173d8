use Rattle.std.proofs.Common.{◌≡◌, ◌++◌, take}
use Rattle.dr_desk.specs.Agreeing.{numbers}
use Rattle.dr_desk.proofs.closing.push_numbers.Given as goal

abbrev pub invariant-loop-i : goal.invariant-loop-i
invariant-loop-i l = l.all.items ≡ l.fn.all.items ++ numbers (take l.i l.receipts.items)
