use Rattle.std.proofs.Common.{take}
use Rattle.std.specs.Fmt.{HasWritten, IsPlainFormatter}
use Rattle.dr_run_shown.specs.Showing.{escaped_bytes}
use Rattle.dr_run_shown.proofs.shown.write_escaped.Given as goal

abbrev pub invariant-loop-byte : goal.invariant-loop-byte
invariant-loop-byte g l = IsPlainFormatter l.fn.f → HasWritten g.W.Write.write_str_gives l.fn.f (escaped_bytes (take l.byte-index l.fn.bytes)) l.f
