-- What a checker's no shows, and when a plan has too many lines.
use Rattle.std.specs.Prelude.{◌≡◌, ◌≢◌, AllPairs, All, List, [], ◌∷◌, ◌++◌, length, Contains}
use Rattle.std.specs.declared.cmp.Ordering.TheVariants.{Less}
use Rattle.dr_base.specs.Texts.{Text}
use Rattle.dr_base.specs.declared.syntax.Syntax.{Syntax}
use Rattle.dr_route.specs.Routes.{local}
use Rattle.dr_route.specs.declared.key.Key.{Key}
use Rattle.dr_route.specs.declared.cell.OwnedCell.{OwnedCell}
use Rattle.dr_plan_model.specs.Networks.{Network}
use Rattle.dr_plan_model.specs.Plans.{LiesIn}
use Rattle.dr_plan_model.specs.Walks.{Sends, Keeps, Accepts, IsWalk, places, last_place, IsEntry}
use Rattle.dr_plan_model.specs.Walks.{IsReached, GoesOver}
use Rattle.dr_plan_sound.specs.declared.certificate.Stop.{Stop}
use Rattle.dr_plan_sound.specs.HopPairs.{hop_cmp}
use Rattle.dr_check.specs.declared.fault.Fault.{Fault}
use Rattle.dr_check.specs.declared.fault.Fault.TheVariants.{NoContext, Cycle, DeadEnd}
use Rattle.dr_check.specs.declared.fault.Fault.TheVariants.{TooManyContexts}

-- The cell has a key, and for each of its keys the nodes are a walk from an entry, of which P says
-- what is wrong: P has the site, the nodes after it, and the key.
pub record ShownBy (plan : Network) (walk : List Text) (cell : OwnedCell)
    (P : Text → List Text → Key → Type 0) : Type 0 where
  pub site : Text
  pub over : List Text
  pub nodes : walk ≡ site ∷ over
  pub some : (key : Key) × LiesIn plan cell key
  pub each : (key : Key) → LiesIn plan cell key
      → IsEntry plan site key × IsWalk plan key local site over × P site over key

-- the last pair (caller, node) of the walk stands in it before: a circle
abbrev pub ComesBack : Text → List Text → Type 0
ComesBack site over =
    (before : List (Text × Text))
    × (places local site over ≡ before ++ last_place local site over ∷ [])
    × Contains before (last_place local site over)

-- more pairs of a class and a transfer syntax go over the hop than an association has presentation
-- contexts: 129
abbrev pub IsOverfull : Network → Text → Text → Type 0
IsOverfull plan from to =
    (apart : List (Text × Syntax))
    × AllPairs (λ p q. p ≢ q) apart
    × All (GoesOver plan from to) apart
    × (length apart ≡ 129)

-- the hop is the first over which too many pairs go, by the bytes of the sender's name and then of
-- the receiver's
abbrev pub IsFirstOverfull : Network → Text → Text → Type 0
IsFirstOverfull plan from to =
    IsOverfull plan from to
    × ((a b : Text) → IsOverfull plan a b → hop_cmp (a, b) (from, to) ≢ Less)

-- the fault is in the plan, as can be followed by hand: a hop that isn't accepted, a circle, a walk
-- that ends where nobody keeps, or the first hop with too many pairs
abbrev pub IsShown : Network → Fault → Type 0
IsShown plan (NoContext walk cell) = ShownBy plan walk cell (λ site over key. (over ≢ [])
    × (Accepts plan (last_place local site over).1 (last_place local site over).0 key.class
    key.syntax
    → ⊥))
IsShown plan (Cycle walk cell) = ShownBy plan walk cell (λ site over key. ComesBack site over)
IsShown plan (DeadEnd walk cell) = ShownBy plan walk cell
    (λ site over key.
    (Keeps plan (last_place local site over).1 (last_place local site over).0 key → ⊥)
    × ((to : Text)
    → Sends plan (last_place local site over).1 (last_place local site over).0 key to
    → ⊥))
IsShown plan (TooManyContexts from to) = IsFirstOverfull plan from to

-- more stops than a certificate may have lines: 65,537 of them, no two alike, to each of which some
-- key of its cell comes
pub record IsTooLarge (plan : Network) : Type 0 where
  pub stops : List Stop
  pub apart : AllPairs (λ a b. a ≢ b) stops
  pub each : All
      (λ (stop : Stop).
      (key : Key) × LiesIn plan stop.cell key × IsReached plan key stop.caller stop.node) stops
  pub many : length stops ≡ 65537
