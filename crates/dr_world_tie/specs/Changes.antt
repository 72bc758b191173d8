-- A change of plan in the world of bytes, and worlds through such changes.
use Rattle.std.specs.Prelude.{◌≡◌, ℕ, true, false, List, [], ◌∷◌, Some}
use Rattle.std.specs.FinMap as map
use Rattle.dr_base.specs.Texts.{Text}
use Rattle.dr_plan_model.specs.Networks.{Network}
use Rattle.dr_plan_sound.specs.declared.certificate.Certificate.{Certificate}
use Rattle.dr_site.specs.Sites.{IsCertified}
use Rattle.dr_ledger.specs.Adopting.{IsFit}
use Rattle.dr_ledger.specs.Books.{Adoption, after, empty_book}
use Rattle.dr_session.specs.Ledgers.{desk}
use Rattle.dr_world_model.specs.Worlds.{World, start}
use Rattle.dr_world_model.specs.Events.{HasNode}
use Rattle.dr_world_model.specs.Runs.{Action, Adopts, Runs}
use Rattle.dr_world_model.specs.Claims.{Headline}
use Rattle.dr_world_model.specs.Theorem.{Lasts}
use Rattle.dr_world_tie.specs.Channels.{Channel}
use Rattle.dr_world_tie.specs.ByteWorlds.{ByteWorld, WorldStep, StepNote, Steps, beginning}
use Rattle.dr_world_tie.specs.ByteWorlds.{is_over}
use Rattle.dr_world_tie.specs.Shown.{ShowsWorld}

-- both ends of each link are over (PS3.8 9.2.1: Sta1), so that nothing is under way
abbrev pub AllAreOver : ByteWorld → Type 0
AllAreOver b =
    (number : ℕ) (k : Channel)
    → map.get b.links number ≡ Some k
    → (is_over k.caller.core ≡ true) × (is_over k.receiver.core ≡ true)

-- All nodes may take the next plan: nothing is under way, no node's store is to refuse, each node
-- stays one and may go on with the rows that aren't done, and what names no node has nothing.
pub record MayTake (plan : Network) (b : ByteWorld) (next : Network) : Type 0 where
  pub over : AllAreOver b
  pub unarmed : (name : Text) → HasNode plan name → (b.desks name).armed ≡ false
  pub stay : (name : Text) → HasNode plan name → HasNode next name
  pub fit : (name : Text) → HasNode plan name → IsFit next name (b.desks name).book
  pub strangers : (name : Text) → (HasNode plan name → ⊥) → b.desks name ≡ desk empty_book false

-- All nodes take the next plan at once: each book goes over, a node that joins has an empty one,
-- and links are gone.
pub record TakesPlan (plan : Network) (b : ByteWorld) (next : Network)
    (new : ByteWorld) : Type 0 where
  pub may : MayTake plan b next
  pub time : new.time ≡ b.time
  pub opened : new.opened ≡ b.opened
  pub links : new.links ≡ map.empty
  pub desks : (name : Text) → HasNode plan name
      → new.desks name ≡ desk (after Adoption (b.desks name).book) false
  pub joined : (name : Text) → (HasNode plan name → ⊥) → new.desks name ≡ desk empty_book false

-- A plan that is taken in a world of bytes is adopted in the message world beside it, and what
-- comes of both stands side by side.
abbrev pub PlansAreAdopted : Type 0
PlansAreAdopted =
    (plan next : Network) (certificate own : Certificate)
    → IsCertified next own
    → (b new : ByteWorld) (w : World)
    → ShowsWorld plan certificate b w
    → TakesPlan plan b next new
    → (v : World) × Adopts plan w next v × ShowsWorld next own new v

-- ---- runs

-- what is done to a world of bytes: a step, or all its nodes take the plan of this certificate
pub data Deed : Type 0 where
  Does : (step : WorldStep) → Deed
  Takes : (next : Network) → (own : Certificate) → Deed

-- deeds one after the other, from one plan and world to another
abbrev pub RunsThrough : Network → Certificate → ByteWorld → List Deed → Network → Certificate
    → ByteWorld → Type 0
RunsThrough plan certificate b [] last its new =
    (last ≡ plan) × (its ≡ certificate) × (new ≡ b)
RunsThrough plan certificate b (Does step ∷ deeds) last its new =
    (note : StepNote) × (mid : ByteWorld)
    × Steps plan certificate b step note mid
    × RunsThrough plan certificate mid deeds last its new
RunsThrough plan certificate b (Takes next own ∷ deeds) last its new =
    (mid : ByteWorld)
    × IsCertified next own
    × TakesPlan plan b next mid
    × RunsThrough next own mid deeds last its new

-- events and adoptions lead from the start, under the first plan, to the world, under the last
abbrev pub ComesThrough : Network → Network → World → Type 0
ComesThrough first last w = (actions : List Action) × Runs first start actions last w

-- After any deeds from the beginning a world stands beside the bytes, with their books, to which
-- events and adoptions lead, and of which the headline's four claims hold by the plan in force.
abbrev pub ChangesKeepTheHeadline : Type 0
ChangesKeepTheHeadline =
    (plan : Network) (certificate : Certificate)
    → IsCertified plan certificate
    → (deeds : List Deed) (last : Network) (its : Certificate) (b : ByteWorld)
    → RunsThrough plan certificate beginning deeds last its b
    → ∥ ((w : World) × ShowsWorld last its b w × ComesThrough plan last w × Headline last w) ∥₁

-- What a node has and keeps after some deeds it has and keeps after any further ones, unchanged,
-- and its journal has grown at its end.
abbrev pub WhatIsKeptStaysThrough : Type 0
WhatIsKeptStaysThrough =
    (plan : Network) (certificate : Certificate)
    → IsCertified plan certificate
    → (deeds more : List Deed) (mid last : Network) (own its : Certificate) (b c : ByteWorld)
    → RunsThrough plan certificate beginning deeds mid own b
    → RunsThrough mid own b more last its c
    → ∥ ((v : World) × (w : World)
    × ShowsWorld mid own b v
    × ShowsWorld last its c w
    × Lasts v w) ∥₁

-- ---- laws

-- A plan that may be taken can be.
abbrev pub PlansCanBeTaken : Type 0
PlansCanBeTaken =
    (plan next : Network) (b : ByteWorld)
    → MayTake plan b next
    → (new : ByteWorld) × TakesPlan plan b next new

-- At the beginning any may be taken that all nodes of the first are nodes of.
abbrev pub NewWorldsMayTake : Type 0
NewWorldsMayTake =
    (plan next : Network)
    → ((name : Text) → HasNode plan name → HasNode next name)
    → MayTake plan beginning next

-- What is taken is fixed by the world and the plans: two worlds that come of it have the same time,
-- links and desks.
abbrev pub WhatIsTakenIsOne : Type 0
WhatIsTakenIsOne =
    (plan next : Network) (b one other : ByteWorld)
    → TakesPlan plan b next one
    → TakesPlan plan b next other
    → (one.time ≡ other.time) × (one.links ≡ other.links)
    × ((name : Text) → one.desks name ≡ other.desks name)
