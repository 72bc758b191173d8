use Rattle.std.proofs.Common.{◌≡◌, ◌++◌, take}
use Rattle.dr_word_simulate.specs.Reported.{refusals_of}
use Rattle.dr_word_simulate.proofs.telling.tell_refusals.Given as goal

-- what is told of those so far
abbrev pub invariant-loop-refused : goal.invariant-loop-refused
invariant-loop-refused l = l.out.items ≡ l.fn.out.items ++ refusals_of (take l.refused-index l.refusals)
