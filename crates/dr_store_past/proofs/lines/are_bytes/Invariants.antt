use Rattle.std.proofs.Common.{take}
use Rattle.hex.specs.Hex.{IsBytes}
use Rattle.dr_store_past.proofs.lines.are_bytes.Given as goal

abbrev pub invariant-loop-byte : goal.invariant-loop-byte
invariant-loop-byte l = IsBytes (take l.byte-index l.bytes)
