use Rattle.std.proofs.lemmas.List.Sorted.{Contains-permutation, IsPermutation-sym}
use Rattle.dr_world_audit.proofs.comparing.in_order.Goals as goal

pub returns-clause-same : goal.returns-clause-same
returns-clause-same c = λ h. (
  Contains-permutation _ _ h (IsPermutation-sym _ _ c.sort_unstable.ensures.permutation),
  Contains-permutation _ _ h c.sort_unstable.ensures.permutation,
)
