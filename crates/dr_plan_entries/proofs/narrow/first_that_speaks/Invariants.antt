use Rattle.std.proofs.Common.{take}
use Rattle.dr_plan_entries.specs.Entering.{NoneSpeaks}
use Rattle.dr_plan_entries.proofs.narrow.first_that_speaks.Given as goal

abbrev pub invariant-loop-place : goal.invariant-loop-place
invariant-loop-place l = NoneSpeaks l.flows (take l.place-index l.among) l.part
