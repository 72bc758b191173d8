use Rattle.std.proofs.Common.{take}
use Rattle.std.specs.Prelude.{All}
use Rattle.dr_route.specs.Names.{HasName}
use Rattle.dr_cert_diff.specs.Entering.{Grows}
use Rattle.dr_cert_diff.proofs.entries.add_sites.Given as goal

abbrev pub invariant-loop-flow : goal.invariant-loop-flow
invariant-loop-flow l = record { kept : Grows l.fn.names l.names; all : All (λ flow. HasName l.names flow.at) (take l.flow-index l.fn.flows) }
