use Rattle.std.proofs.Common.{take}
use Rattle.dr_plan_entries.specs.Entering.{AreNarrowed}
use Rattle.dr_plan_entries.proofs.narrow.narrowed.Given as goal

abbrev pub invariant-loop-place : goal.invariant-loop-place
invariant-loop-place l = AreNarrowed l.flows (take l.place-index l.among) l.part l.found.items
