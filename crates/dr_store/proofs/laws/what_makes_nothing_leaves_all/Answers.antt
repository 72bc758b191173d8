use Rattle.std.proofs.Math.Logic.{∥∥₁_map}
use Rattle.std.proofs.Common.{inl, inr}
use Rattle.dr_store.proofs.laws.what_makes_nothing_leaves_all.Goals as goal

pub returns : goal.returns
returns g c why wrote clean safe db left =
    ∥∥₁_map (wrote.crash clean safe db left) (λ s. elim s [ inl same ↦ same | inr made ↦ absurd made ])
