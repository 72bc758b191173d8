use Rattle.std.proofs.Common.{take}
use Rattle.dr_store_past.specs.Places.{IsPlaceBefore}
use Rattle.dr_store_past.proofs.places.place_before.Given as goal

abbrev pub invariant-loop-place : goal.invariant-loop-place
invariant-loop-place l = IsPlaceBefore (take l.place-index l.places) l.count l.found
