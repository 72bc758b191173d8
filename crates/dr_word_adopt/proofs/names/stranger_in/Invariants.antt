use Rattle.std.proofs.Common.{take}
use Rattle.dr_word_adopt.specs.Names.{AreNodes}
use Rattle.dr_word_adopt.proofs.names.stranger_in.Given as goal

abbrev pub invariant-loop-name : goal.invariant-loop-name
invariant-loop-name l = AreNodes l.fn.plan (take l.name-index l.fn.names)
