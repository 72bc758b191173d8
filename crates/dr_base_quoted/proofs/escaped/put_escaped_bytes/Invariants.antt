use Rattle.std.proofs.Common.{◌≡◌, ◌++◌, take}
use Rattle.dr_base_quoted.specs.Escaping.{escaped}
use Rattle.dr_base_quoted.proofs.escaped.put_escaped_bytes.Given as goal

abbrev pub invariant-loop-byte : goal.invariant-loop-byte
invariant-loop-byte l = l.out.items ≡ l.initial.out.items ++ escaped (take l.byte-index l.bytes)
