-- Sound plans and ranks, over all keys and all walks.
use Rattle.std.specs.Prelude.{◌≡◌, ◌≢◌, ℕ, ◌≤◌, ◌⊎◌, List, length, AllPairs, All}
use Rattle.dr_base.specs.Texts.{Text}
use Rattle.dr_base.specs.declared.syntax.Syntax.{Syntax}
use Rattle.dr_route.specs.Routes.{local}
use Rattle.dr_route.specs.declared.key.Key.{Key}
use Rattle.dr_plan_model.specs.Networks.{Network}
use Rattle.dr_plan_model.specs.Walks.{Sends, Keeps, Accepts, IsWalk, places, IsEntry, IsReached}
use Rattle.dr_plan_model.specs.Walks.{Goes, GoesOver}

-- A sound plan: each hop of a walk from an entry is accepted, no pair (caller, node) stands in a
-- walk twice, the last node of each keeps the instance or sends it on, and over each hop go at most
-- 128 pairs of a class and a transfer syntax.
pub record IsSound (plan : Network) : Type 0 where
  pub accepted : (key : Key) (from to : Text)
      → Goes plan key from to
      → Accepts plan to from key.class key.syntax
  pub no_pair_twice : (key : Key) (site : Text) (over : List Text)
      → IsEntry plan site key
      → IsWalk plan key local site over
      → AllPairs (λ p q. p ≢ q) (places local site over)
  pub goes_on : (key : Key) (caller name : Text) → IsReached plan key caller name →
      Keeps plan name caller key ⊎ ((to : Text) × Sends plan name caller key to)
  pub few_pairs : (from to : Text) (apart : List (Text × Syntax))
      → AllPairs (λ p q. p ≢ q) apart
      → All (GoesOver plan from to) apart
      → length apart ≤ 128

-- the rank of a place: the greatest length of a walk from it
pub record IsRank (plan : Network) (key : Key) (caller name : Text) (rank : ℕ) : Type 0 where
  pub longest : (over : List Text) × IsWalk plan key caller name over × (length over ≡ rank)
  pub greatest : (over : List Text) → IsWalk plan key caller name over → length over ≤ rank
