use Rattle.std.proofs.Common.{◌≡◌, ◌++◌, take}
use Rattle.std.specs.Prelude.{flat_map}
use Rattle.dr_cert_trace.specs.Rows.{traced_hop_row}
use Rattle.dr_cert_trace.proofs.print.add_hops.Given as goal

abbrev pub invariant-loop-hop : goal.invariant-loop-hop
invariant-loop-hop l = l.out.items ≡ l.initial.out.items ++ flat_map traced_hop_row (take l.hop-index l.hops)
