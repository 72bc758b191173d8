use Rattle.std.proofs.Common.{◌≡◌, take}
use Rattle.dr_run_answer.proofs.noted.copies_of.Given as goal

abbrev pub invariant-loop-brought : goal.invariant-loop-brought
invariant-loop-brought l = l.copies.items ≡ take l.brought-index l.callers
