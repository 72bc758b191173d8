use Rattle.std.proofs.Common.{◌≡◌, ◌<◌, ◌^◌, take}
use Rattle.std.specs.List.{AllByRecursion}
use Rattle.dr_pdu.specs.Fitting.{IsUnpadded, weight}
use Rattle.dr_pdu.proofs.lengths.names_len.Given as goal

abbrev pub invariant-loop-name : goal.invariant-loop-name
invariant-loop-name l = (l.len ≡ weight (take l.name-index l.names)) × (l.len < 2 ^ 16) × AllByRecursion IsUnpadded (take l.name-index l.names)
