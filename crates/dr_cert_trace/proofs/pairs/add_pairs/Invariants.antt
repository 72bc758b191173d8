use Rattle.std.proofs.Common.{Contains, take}
use Rattle.dr_cert_trace.specs.Found.{AddsPairs}
use Rattle.dr_cert_trace.proofs.pairs.add_pairs.Given as goal

-- the pairs with those so far are there too
abbrev pub invariant-loop-to : goal.invariant-loop-to
invariant-loop-to l = AddsPairs l.fn.pairs l.pairs l.fn.from (λ name. Contains (take l.to-index l.fn.all) name)
