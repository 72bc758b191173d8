use Rattle.std.proofs.Common.{take, All}
use Rattle.dr_desk.specs.Paging.{AgreesWith}
use Rattle.dr_desk.proofs.paging.each_agrees.Given as goal

abbrev pub invariant-loop-i : goal.invariant-loop-i
invariant-loop-i l = All (AgreesWith l.after l.page) (take l.i l.receipts.items)
