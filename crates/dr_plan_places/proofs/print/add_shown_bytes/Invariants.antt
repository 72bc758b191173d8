use Rattle.std.proofs.Common.{◌≡◌, ◌++◌, take, flat_map}
use Rattle.dr_plan_places.specs.Shown.{shown_byte}
use Rattle.dr_plan_places.proofs.print.add_shown_bytes.Given as goal

abbrev pub invariant-loop-byte : goal.invariant-loop-byte
invariant-loop-byte l = l.out.items ≡ l.initial.out.items ++ flat_map shown_byte (take l.byte-index l.text)
