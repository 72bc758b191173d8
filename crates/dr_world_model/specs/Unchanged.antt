-- What is anywhere was submitted, and it is unchanged.
use Rattle.std.specs.Prelude.{◌≡◌, ℕ, List, Contains, Some}
use Rattle.std.specs.FinMap as map
use Rattle.dr_base.specs.Texts.{Text}
use Rattle.dr_plan_model.specs.Networks.{Network}
use Rattle.dr_ledger.specs.declared.content.Job.{Job}
use Rattle.dr_ledger.specs.declared.item.Instance.{Instance}
use Rattle.dr_ledger.specs.Items.{IsItem, IsTheOne, instance_of}
use Rattle.dr_world_model.specs.Worlds.{World, Link, start}
use Rattle.dr_ledger.specs.Replies.{Reply}
use Rattle.dr_world_model.specs.Steps.{IsLink, pending}
use Rattle.dr_world_model.specs.Events.{Take}
use Rattle.dr_world_model.specs.Runs.{Action, Occurs, Runs}

-- the instance was submitted at some node
abbrev pub WasSubmitted : List Action → Instance → Type 0
WasSubmitted actions item =
    (node : Text) × (reply : Reply) × Contains actions (Occurs (Take node item reply))

-- Each instance that a node knows, or that is under way, was submitted.
pub record AllWasSubmitted (actions : List Action) (w : World) : Type 0 where
  pub known : (name uid : Text) (item : Instance)
      → map.get (w.books name).items uid ≡ Some item
      → WasSubmitted actions item
  pub under_way : (number : ℕ) (link : Link) (item : Instance)
      → IsLink w number link
      → pending link.stage ≡ Some item
      → WasSubmitted actions item

-- each instance that a node knows, or that is under way, was submitted; over every plan, sound or
-- not
abbrev pub NothingIsMadeUp : Type 0
NothingIsMadeUp =
    (plan : Network) (actions : List Action) (last : Network) (w : World)
    → Runs plan start actions last w
    → AllWasSubmitted actions w

-- an item whose data set is the only one that was submitted with its digest
pub record IsSubmitted (content : List ℕ → List ℕ) (actions : List Action)
    (sent : Job) : Type 0 where
  pub item : IsItem sent
  pub one : IsTheOne content sent
  pub submitted : WasSubmitted actions (instance_of sent)

-- Whatever was submitted was an item, and no two different data sets were submitted with one
-- SHA-256: each is the one that `content` has for its digest.
abbrev pub NoTwoAlike : (List ℕ → List ℕ) → List Action → Type 0
NoTwoAlike content actions =
    (item : Instance)
    → WasSubmitted actions item
    → (sent : Job) × IsSubmitted content actions sent × (instance_of sent ≡ item)

-- Where no two data sets submitted have one digest: a data set that was submitted, and stands
-- anywhere for an instance that a node knows, is byte for byte the one that was submitted as that
-- instance.
abbrev pub WhatIsThereIsUnchanged : Type 0
WhatIsThereIsUnchanged =
    (content : List ℕ → List ℕ) (plan : Network) (actions : List Action) (last : Network)
    (w : World)
    → Runs plan start actions last w
    → NoTwoAlike content actions
    → (name uid : Text) (held : Job)
    → map.get (w.books name).items uid ≡ Some (instance_of held)
    → IsTheOne content held
    → IsSubmitted content actions held
