use Rattle.std.proofs.Common.{◌≡◌, ◌≤◌, take}
use Rattle.dr_cert_lint.specs.Edges.{contexts_between}
use Rattle.dr_cert_lint.proofs.edges.contexts_between.Given as goal

abbrev pub invariant-loop-hop : goal.invariant-loop-hop
invariant-loop-hop l = (l.count ≡ contexts_between (take l.hop-index l.fn.hops) l.fn.from l.fn.to) × (l.count ≤ l.hop-index)
