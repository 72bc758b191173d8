-- Which fault is named where a plan has several: that of the first walk that shows one, from the
-- first entry from which one does.
use Rattle.std.specs.Prelude.{◌≡◌, ◌≢◌, ◌⊎◌, List, [], ◌∷◌}
use Rattle.std.specs.declared.cmp.Ordering.TheVariants.{Less}
use Rattle.dr_base.specs.Texts.{Text, text_cmp}
use Rattle.dr_route.specs.Routes.{local}
use Rattle.dr_route.specs.declared.key.Key.{Key}
use Rattle.dr_route.specs.declared.cell.OwnedCell.{OwnedCell}
use Rattle.dr_plan_model.specs.Networks.{Network}
use Rattle.dr_plan_model.specs.Plans.{LiesIn}
use Rattle.dr_plan_model.specs.Walks.{Sends, Keeps, Accepts, IsWalk, last_place}
use Rattle.dr_plan_entries.specs.InOrder.{ComesBefore}
use Rattle.dr_plan_entries.specs.Visiting.{IsEntryCell}
use Rattle.dr_check.specs.Shown.{ComesBack, IsShown}
use Rattle.dr_check.specs.declared.fault.Fault.{Fault}
use Rattle.dr_check.specs.declared.fault.Fault.TheVariants.{NoContext, Cycle, DeadEnd}
use Rattle.dr_check.specs.declared.fault.Fault.TheVariants.{TooManyContexts}

-- one walk comes before another: where they part, its node's name is the lesser one by its bytes,
-- or the other walk goes on from it
abbrev pub IsBefore : List Text → List Text → Type 0
IsBefore [] [] = ⊥
IsBefore [] (other ∷ others) = Unit {0}
IsBefore (node ∷ nodes) [] = ⊥
IsBefore (node ∷ nodes) (other ∷ others) =
    (text_cmp node other ≡ Less) ⊎ ((node ≡ other) × IsBefore nodes others)

-- At its end the walk of the key from the site over these nodes shows no fault: its last hop is
-- accepted, its last pair doesn't stand in it before, and its last node keeps the instance or sends
-- it on.
pub record IsHarmless (plan : Network) (key : Key) (site : Text) (over : List Text) : Type 0 where
  pub accepted : over ≢ []
      → Accepts plan (last_place local site over).1 (last_place local site over).0 key.class
      key.syntax
  pub no_circle : ComesBack site over → ⊥
  pub goes_on : Keeps plan (last_place local site over).1 (last_place local site over).0 key
      ⊎ ((to : Text)
      × Sends plan (last_place local site over).1 (last_place local site over).0 key to)

-- no walk of the key from the site that comes before this one shows a fault
abbrev pub NothingBefore : Network → Key → Text → List Text → Type 0
NothingBefore plan key site walk =
    (over : List Text)
    → IsWalk plan key local site over
    → IsBefore (site ∷ over) walk
    → IsHarmless plan key site over

-- of the walks of the cell's keys from the site at which this one begins, none that comes before it
-- shows a fault
abbrev pub IsFirstWalk : Network → List Text → OwnedCell → Type 0
IsFirstWalk plan walk cell =
    (key : Key) → LiesIn plan cell key
    → (site : Text) (over : List Text)
    → walk ≡ site ∷ over
    → NothingBefore plan key site walk

-- The walk that is named is the first one from its entry that shows a fault; a hop that isn't
-- accepted is named before a circle, and a circle before a dead end.
abbrev pub IsNamedFirst : Network → Fault → Type 0
IsNamedFirst plan (NoContext walk cell) = IsFirstWalk plan walk cell
IsNamedFirst plan (Cycle walk cell) =
    IsFirstWalk plan walk cell × (IsShown plan (NoContext walk cell) → ⊥)
IsNamedFirst plan (DeadEnd walk cell) =
    IsFirstWalk plan walk cell
    × (IsShown plan (NoContext walk cell) → ⊥)
    × (IsShown plan (Cycle walk cell) → ⊥)
IsNamedFirst plan (TooManyContexts from to) = Unit {0}

-- ---- among all entries

-- no walk of a key of the cell from the site shows a fault
abbrev pub IsHarmlessEntry : Network → Text → OwnedCell → Type 0
IsHarmlessEntry plan site cell =
    (key : Key) → LiesIn plan cell key → (over : List Text)
    → IsWalk plan key local site over
    → IsHarmless plan key site over

-- of the entries of the plan, in the order in which they are printed, none that comes before this
-- one shows a fault
abbrev pub IsFirstEntry : Network → Text → OwnedCell → Type 0
IsFirstEntry plan site cell =
    (s : Text) (c : OwnedCell)
    → IsEntryCell plan s c
    → ComesBefore s c site cell
    → IsHarmlessEntry plan s c

-- the walk begins at the first entry that shows a fault
abbrev pub IsOfFirstEntry : Network → List Text → OwnedCell → Type 0
IsOfFirstEntry plan walk cell =
    (site : Text) (over : List Text) → walk ≡ site ∷ over → IsFirstEntry plan site cell

-- The fault that is named is on a walk of the first entry that shows one; that a hop has too many
-- pairs is named only where no entry shows one.
abbrev pub IsFirstOfPlan : Network → Fault → Type 0
IsFirstOfPlan plan (NoContext walk cell) = IsOfFirstEntry plan walk cell
IsFirstOfPlan plan (Cycle walk cell) = IsOfFirstEntry plan walk cell
IsFirstOfPlan plan (DeadEnd walk cell) = IsOfFirstEntry plan walk cell
IsFirstOfPlan plan (TooManyContexts from to) =
    (site : Text) (cell : OwnedCell) → IsEntryCell plan site cell → IsHarmlessEntry plan site cell

-- the fault is on a walk of the cell's keys that begins at the site
abbrev pub IsOnWalk : Text → OwnedCell → Fault → Type 0
IsOnWalk site cell fault =
    (over : List Text)
    × ((fault ≡ NoContext (site ∷ over) cell)
    ⊎ ((fault ≡ Cycle (site ∷ over) cell) ⊎ (fault ≡ DeadEnd (site ∷ over) cell)))
