-- What is no node has nothing; and time has an end.
use Rattle.std.specs.Prelude.{◌≡◌, ◌≤◌, ◌^◌, List}
use Rattle.dr_base.specs.Texts.{Text}
use Rattle.dr_plan_model.specs.Networks.{Network}
use Rattle.dr_plan_model.specs.Plans.{IsWellFormed}
use Rattle.dr_ledger.specs.Books.{empty_book}
use Rattle.dr_world_model.specs.Worlds.{World, start}
use Rattle.dr_world_model.specs.Events.{HasNode}
use Rattle.dr_world_model.specs.Runs.{Action, Runs}

-- A name that is no node's has an empty book, so that an adoption finds it so.
abbrev pub StrangersHaveNothing : Type 0
StrangersHaveNothing =
    (plan : Network) → IsWellFormed plan
    → (actions : List Action) (last : Network) (w : World)
    → Runs plan start actions last w
    → (name : Text) → (HasNode last name → ⊥)
    → w.books name ≡ empty_book

-- Moments go up to 2^62.
abbrev pub TimeIsBounded : Type 0
TimeIsBounded =
    (plan : Network) (actions : List Action) (last : Network) (w : World)
    → Runs plan start actions last w
    → w.time ≤ 2 ^ 62
