use Rattle.std.proofs.Common.{◌≤◌, length, take}
use Rattle.std.specs.Io.KnownBytes.{Appends}
use Rattle.dr_run_net.proofs.writing.write_in_time.Given as goal

abbrev pub invariant-loop : goal.invariant-loop
invariant-loop g l = (l.at ≤ length l.bytes) × Appends (g.S.Write.contents l.initial.stream) (g.S.Write.contents l.stream) (take l.at l.bytes)
