-- Changes of plan where nodes of ours have links to each other beside those to other makers'
-- products: all of ours take the next plan at once.
use Rattle.std.specs.Prelude.{◌≡◌, ℕ, true, List, [], ◌∷◌, Option, None, Some}
use Rattle.dr_plan_model.specs.Networks.{Network}
use Rattle.dr_plan_sound.specs.declared.certificate.Certificate.{Certificate}
use Rattle.dr_site.specs.Sites.{IsCertified}
use Rattle.dr_world_model.specs.Worlds.{World, start}
use Rattle.dr_world_model.specs.Among.{Act, HeadlineAmong, Ours, RunsAmong}
use Rattle.dr_world_tie.specs.ByteWorlds.{is_over}
use Rattle.dr_world_tie.specs.Channels.{Channel}
use Rattle.dr_world_tie.specs.MixedWorlds.{MixedStep, MixedSteps, MixedWorld, ShowsMixed}
use Rattle.dr_world_tie.specs.MixedWorlds.{mixed_beginning}
use Rattle.dr_world_tie.specs.OwnChanges.{MayOursTake, OursTake}

-- both ends of each link between two of ours are over, so that nothing is under way there
abbrev pub PairsAreOver : (ℕ → Option Channel) → Type 0
PairsAreOver pairs =
    (number : ℕ) (k : Channel)
    → pairs number ≡ Some k
    → (is_over k.caller.core ≡ true) × (is_over k.receiver.core ≡ true)

-- All of ours may take the next plan as where they have links to others alone, and nothing is under
-- way between two of them.
pub record MayMixedTake (ours : Ours) (plan : Network) (b : MixedWorld)
    (next : Network) : Type 0 where
  pub over : PairsAreOver b.pairs
  pub own : MayOursTake ours plan b.own next

-- All of ours take it at once: no link is left.
pub record MixedTake (ours : Ours) (plan : Network) (b : MixedWorld) (next : Network)
    (new : MixedWorld) : Type 0 where
  pub may : MayMixedTake ours plan b next
  pub own : OursTake ours plan b.own next new.own
  pub pairs : (number : ℕ) → new.pairs number ≡ None

-- what happens: a step, or all of ours take the plan of this certificate
pub data MixedDeed : Type 0 where
  MixedDoes : (step : MixedStep) → MixedDeed
  MixedTakes : (next : Network) → (own : Certificate) → MixedDeed

-- one after the other, from one plan and world to another
abbrev pub MixedRunsThrough : Ours → Network → Certificate → MixedWorld → List MixedDeed → Network
    → Certificate → MixedWorld → Type 0
MixedRunsThrough ours plan certificate b [] last its new =
    (last ≡ plan) × (its ≡ certificate) × (new ≡ b)
MixedRunsThrough ours plan certificate b (MixedDoes step ∷ deeds) last its new =
    (mid : MixedWorld)
    × MixedSteps ours plan certificate b step mid
    × MixedRunsThrough ours plan certificate mid deeds last its new
MixedRunsThrough ours plan certificate b (MixedTakes next own ∷ deeds) last its new =
    (mid : MixedWorld)
    × IsCertified next own
    × MixedTake ours plan b next mid
    × MixedRunsThrough ours next own mid deeds last its new

-- After any of these from the beginning, whatever others write and whatever plans were taken, a
-- world of messages stands beside it, to which acts lead from the start, and of which the four
-- claims hold by the plan in force.
abbrev pub MixedChangesKeepTheClaims : Type 0
MixedChangesKeepTheClaims =
    (ours : Ours) (plan : Network) (certificate : Certificate)
    → IsCertified plan certificate
    → (deeds : List MixedDeed) (last : Network) (its : Certificate) (b : MixedWorld)
    → MixedRunsThrough ours plan certificate mixed_beginning deeds last its b
    → ∥ ((acts : List Act) × (w : World)
    × RunsAmong ours plan start acts last w
    × ShowsMixed ours last its b w
    × HeadlineAmong ours last w) ∥₁

-- ---- laws

-- What may be taken can be.
abbrev pub MixedCanTake : Type 0
MixedCanTake =
    (ours : Ours) (plan next : Network) (b : MixedWorld)
    → MayMixedTake ours plan b next
    → (new : MixedWorld) × MixedTake ours plan b next new
