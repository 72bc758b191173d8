use Rattle.std.proofs.Common.{◌≡◌, take}
use Rattle.dr_cert_expect.specs.Rows.{shown}
use Rattle.dr_cert_expect.proofs.print.shown_value.Given as goal

-- the bytes so far as they are shown
abbrev pub invariant-loop-byte : goal.invariant-loop-byte
invariant-loop-byte l = l.bytes.items ≡ shown (take l.byte-index l.fn.value)
