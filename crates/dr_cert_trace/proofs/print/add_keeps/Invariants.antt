use Rattle.std.proofs.Common.{◌≡◌, ◌++◌, take}
use Rattle.std.specs.Prelude.{flat_map}
use Rattle.dr_cert_trace.specs.Rows.{keep_row}
use Rattle.dr_cert_trace.proofs.print.add_keeps.Given as goal

abbrev pub invariant-loop-name : goal.invariant-loop-name
invariant-loop-name l = l.out.items ≡ l.initial.out.items ++ flat_map keep_row (take l.name-index l.keeps)
