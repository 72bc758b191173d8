use Rattle.std.proofs.Common.{◌≡◌, ◌++◌, take}
use Rattle.dr_word_simulate.specs.Reported.{notes_of}
use Rattle.dr_word_simulate.proofs.telling.tell_changes.Given as goal

-- what is told of the changes so far
abbrev pub invariant-loop-change : goal.invariant-loop-change
invariant-loop-change l = l.out.items ≡ l.fn.out.items ++ notes_of (take l.change-index l.changes)
