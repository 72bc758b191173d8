use Rattle.std.proofs.Common.{◌≡◌, ◌++◌, length, flat_map}
use Rattle.dr_base_quoted.specs.Quoting.{quoted_byte}
use Rattle.dr_ledger_read.proofs.quoted.text_at.Given as goal

-- what was read so far, and what is left
abbrev pub invariant-loop-byte : goal.invariant-loop-byte
invariant-loop-byte l = l.place ≡ flat_map quoted_byte l.bytes.items ++ l.rest

abbrev pub decreases-loop-byte : goal.decreases-loop-byte
decreases-loop-byte l = length l.rest
