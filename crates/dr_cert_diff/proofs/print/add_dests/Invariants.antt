use Rattle.std.proofs.Common.{◌≡◌, ◌++◌, take}
use Rattle.std.specs.Prelude.{flat_map}
use Rattle.dr_base.specs.Texts.{next_field}
use Rattle.dr_cert_diff.proofs.print.add_dests.Given as goal

abbrev pub invariant-loop-dest : goal.invariant-loop-dest
invariant-loop-dest l = l.out.items ≡ l.initial.out.items ++ flat_map next_field (take l.dest-index l.dests)
