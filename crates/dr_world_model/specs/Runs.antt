-- Adoptions of a new plan, and lists of events and adoptions.
use Rattle.std.specs.Prelude.{◌≡◌, ℕ, true, false, List, [], ◌∷◌, Some}
use Rattle.std.specs.FinMap as map
use Rattle.std.specs.FinSet as set
use Rattle.dr_base.specs.Texts.{Text}
use Rattle.dr_plan_model.specs.Networks.{Network}
use Rattle.dr_plan_model.specs.Plans.{IsWellFormed}
use Rattle.dr_plan_model.specs.Walks.{Goes}
use Rattle.dr_plan_sound.specs.Soundness.{IsSound}
use Rattle.dr_ledger.specs.declared.item.Instance.{Instance}
use Rattle.dr_ledger.specs.declared.item.Progress.{Progress}
use Rattle.dr_ledger.specs.Books.{Adoption, after, empty_book, is_queued}
use Rattle.dr_world_model.specs.Worlds.{World, Link}
use Rattle.dr_world_model.specs.Events.{Event, HasNode, Step}
use Rattle.dr_world_model.specs.Steps.{IsLink}

-- All nodes may take the next plan: no link is connected at either end, no node is armed, each node
-- stays one, each row that is still queued is of a hop of the next plan, and what names no node has
-- an empty book.
pub record MayAdopt (plan : Network) (old : World) (next : Network) : Type 0 where
  pub off : (number : ℕ) (link : Link)
      → IsLink old number link
      → (link.caller_connected ≡ false) × (link.receiver_connected ≡ false)
  pub unarmed : (name : Text) → HasNode plan name → set.contains old.armed name ≡ false
  pub stay : (name : Text) → HasNode plan name → HasNode next name
  pub fit : (name uid to : Text) (row : Progress) (item : Instance)
      → map.get (old.books name).rows (uid, to) ≡ Some row
      → is_queued row ≡ true
      → map.get (old.books name).items uid ≡ Some item
      → Goes next item.key name to
  pub strangers : (name : Text) → (HasNode plan name → ⊥) → old.books name ≡ empty_book

-- All nodes take the next plan at once: arrivals and the rows that are over leave the books, a node
-- that joins has an empty one, and links are gone. What is in the books then, stands.
pub record Adopts (plan : Network) (old : World) (next : Network) (new : World) : Type 0 where
  pub may : MayAdopt plan old next
  pub books : (name : Text) → HasNode plan name → new.books name ≡ after Adoption (old.books name)
  pub joined : (name : Text) → (HasNode plan name → ⊥) → new.books name ≡ empty_book
  pub stood : new.stood ≡ new.books
  pub links : new.links ≡ map.empty
  pub time : new.time ≡ old.time
  pub armed : new.armed ≡ old.armed
  pub opened : new.opened ≡ old.opened

-- what can happen to the world: an event, or the adoption of a new plan
pub data Action : Type 0 where
  Occurs : (event : Event) → Action
  Adopt : (next : Network) → Action

-- a plan that may be adopted: well-formed and sound, as every sealed plan is
abbrev pub IsAdoptable : Network → Type 0
IsAdoptable next = IsWellFormed next × IsSound next

-- Events and adoptions, one after another, from one plan and world to another. Only well-formed,
-- sound plans are adopted.
abbrev pub Runs : Network → World → List Action → Network → World → Type 0
Runs plan old [] last new = (last ≡ plan) × (new ≡ old)
Runs plan old (Occurs event ∷ actions) last new =
    (mid : World) × Step plan old event mid × Runs plan mid actions last new
Runs plan old (Adopt next ∷ actions) last new =
    IsAdoptable next × ((mid : World) × Adopts plan old next mid × Runs next mid actions last new)
