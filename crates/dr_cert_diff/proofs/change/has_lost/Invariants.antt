use Rattle.std.proofs.Common.{◌≢◌, [], take}
use Rattle.std.specs.Prelude.{All}
use Rattle.dr_cert_diff.specs.declared.change.RouteChange.{RouteChange}
use Rattle.dr_cert_diff.proofs.change.has_lost.Given as goal

-- none of the changes so far loses a node
abbrev pub invariant-loop-change : goal.invariant-loop-change
invariant-loop-change l = All (λ (change : RouteChange). change.lost ≢ [] → ⊥) (take l.change-index l.fn.changes)
