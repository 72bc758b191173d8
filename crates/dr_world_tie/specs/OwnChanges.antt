-- Changes of plan at nodes of ours among other makers' products: all of ours take the next plan at
-- once, and the others do what they want.
use Rattle.std.specs.Prelude.{◌≡◌, ℕ, true, false, List, [], ◌∷◌, None}
use Rattle.dr_base.specs.Texts.{Text}
use Rattle.dr_plan_model.specs.Networks.{Network}
use Rattle.dr_plan_sound.specs.declared.certificate.Certificate.{Certificate}
use Rattle.dr_site.specs.Sites.{IsCertified}
use Rattle.dr_ledger.specs.Adopting.{IsFit}
use Rattle.dr_ledger.specs.Books.{Adoption, after, empty_book}
use Rattle.dr_session.specs.Ledgers.{desk}
use Rattle.dr_world_model.specs.Worlds.{World, start}
use Rattle.dr_world_model.specs.Events.{HasNode}
use Rattle.dr_world_model.specs.Among.{Act, HeadlineAmong, Ours, RunsAmong}
use Rattle.dr_world_tie.specs.ForeignWorlds.{OwnStep, OwnSteps, OwnWorld, ShowsOwn, own_beginning}

-- All of ours may take the next plan: no store of theirs is to refuse, each stays a node and may go
-- on with the rows that aren't done, and a name of ours that is no node yet has nothing. Of the
-- others nothing is asked: any may come or go.
pub record MayOursTake (ours : Ours) (plan : Network) (b : OwnWorld) (next : Network) : Type 0 where
  pub unarmed : (name : Text) → HasNode plan name → ours name ≡ true
      → (b.desks name).armed ≡ false
  pub stay : (name : Text) → HasNode plan name → ours name ≡ true → HasNode next name
  pub fit : (name : Text) → HasNode plan name → ours name ≡ true
      → IsFit next name (b.desks name).book
  pub strangers : (name : Text) → (HasNode plan name → ⊥) → ours name ≡ true
      → b.desks name ≡ desk empty_book false

-- All of ours take it at once, as nodes that stop and start again: their connections are gone, each
-- book goes over, and one of ours that joins has an empty one.
pub record OursTake (ours : Ours) (plan : Network) (b : OwnWorld) (next : Network)
    (new : OwnWorld) : Type 0 where
  pub may : MayOursTake ours plan b next
  pub time : new.time ≡ b.time
  pub ends : (number : ℕ) → new.ends number ≡ None
  pub desks : (name : Text) → HasNode plan name → ours name ≡ true
      → new.desks name ≡ desk (after Adoption (b.desks name).book) false
  pub joined : (name : Text) → (HasNode plan name → ⊥) → ours name ≡ true
      → new.desks name ≡ desk empty_book false

-- what happens at nodes of ours: a step, or all take the plan of this certificate
pub data OwnDeed : Type 0 where
  OwnDoes : (step : OwnStep) → OwnDeed
  OwnTakes : (next : Network) → (own : Certificate) → OwnDeed

-- one after the other, from one plan and world to another
abbrev pub OwnRunsThrough : Ours → Network → Certificate → OwnWorld → List OwnDeed → Network
    → Certificate → OwnWorld → Type 0
OwnRunsThrough ours plan certificate b [] last its new =
    (last ≡ plan) × (its ≡ certificate) × (new ≡ b)
OwnRunsThrough ours plan certificate b (OwnDoes step ∷ deeds) last its new =
    (mid : OwnWorld)
    × OwnSteps ours plan certificate b step mid
    × OwnRunsThrough ours plan certificate mid deeds last its new
OwnRunsThrough ours plan certificate b (OwnTakes next own ∷ deeds) last its new =
    (mid : OwnWorld)
    × IsCertified next own
    × OursTake ours plan b next mid
    × OwnRunsThrough ours next own mid deeds last its new

-- After any of these from the beginning, whatever others write and whatever plans were taken, a
-- world of messages stands beside it, to which acts lead from the start, and of which the four
-- claims hold by the plan in force.
abbrev pub OwnChangesKeepTheClaims : Type 0
OwnChangesKeepTheClaims =
    (ours : Ours) (plan : Network) (certificate : Certificate)
    → IsCertified plan certificate
    → (deeds : List OwnDeed) (last : Network) (its : Certificate) (b : OwnWorld)
    → OwnRunsThrough ours plan certificate own_beginning deeds last its b
    → (acts : List Act) × (w : World)
    × RunsAmong ours plan start acts last w
    × ShowsOwn ours last its b w
    × HeadlineAmong ours last w

-- ---- laws

-- What may be taken can be.
abbrev pub OursCanTake : Type 0
OursCanTake =
    (ours : Ours) (plan next : Network) (b : OwnWorld)
    → MayOursTake ours plan b next
    → (new : OwnWorld) × OursTake ours plan b next new

-- At the beginning any plan may be taken of which all of ours are nodes.
abbrev pub OursMayTakeAtFirst : Type 0
OursMayTakeAtFirst =
    (ours : Ours) (plan next : Network)
    → ((name : Text) → HasNode plan name → ours name ≡ true → HasNode next name)
    → MayOursTake ours plan own_beginning next
