-- Laws of the message world.
use Rattle.std.specs.Prelude.{◌≡◌, ◌≢◌, ◌↔◌, ℕ, ◌≤◌, List, [], ◌∷◌, ◌++◌, None, Some, Ok, Err}
use Rattle.std.specs.Prelude.{true, false}
use Rattle.std.specs.FinMap as map
use Rattle.std.specs.FinSet as set
use Rattle.dr_base.specs.Texts.{Text}
use Rattle.dr_base.specs.declared.syntax.Syntax.{Syntax}
use Rattle.dr_base.specs.declared.syntax.Syntax.TheVariants.{Explicit}
use Rattle.dr_route.specs.Routes.{local}
use Rattle.dr_plan_model.specs.Walks.{Sends, Accepts, GoesOver, IsReached}
use Rattle.dr_plan_sound.specs.Soundness.{IsSound}
use Rattle.dr_plan_sound.specs.Samples.{scanner, archive, keep_all, two_nodes}
use Rattle.dr_base.specs.Standard.{image}
use Rattle.dr_ledger.specs.declared.item.Arrived.TheVariants.{New}
use Rattle.dr_ledger.specs.declared.item.Instance.{Instance}
use Rattle.dr_ledger.specs.declared.fault.LedgerFault.TheVariants as fault
use Rattle.dr_ledger.specs.declared.item.Progress.TheVariants.{Waiting, Done, Dropped}
use Rattle.dr_plan_model.specs.Networks.{Network}
use Rattle.dr_ledger.specs.Books.{Line, Fold}
use Rattle.dr_ledger.specs.Histories.{IsSince}
use Rattle.dr_ledger.specs.PlanRoutes.{plan_routing}
use Rattle.dr_ledger.specs.Replies.{IsHeld}
use Rattle.dr_world_model.specs.Worlds.{World, Link, Contexts, start}
use Rattle.dr_world_model.specs.Steps.{IsHop, IsLink, AcceptsOffered}
use Rattle.dr_world_model.specs.Events.{Event, Take, Ask, AgreeReceiver, AgreeCaller, Give, Receive}
use Rattle.dr_world_model.specs.Events.{Answered, Drop, Forget, HasNode, Step}
use Rattle.dr_world_model.specs.Runs.{Adopts, Action, Occurs, Runs}
use Rattle.dr_world_model.specs.Claims.{HadArrival, HasRow, WasGivenUp}

-- A step is a function of the plan, the world, the event and its replies; but where a store failed,
-- whether it spent a refusal isn't said by them.
abbrev pub StepIsAFunction : Type 0
StepIsAFunction =
    (plan : Network) (old : World) (event : Event) (a b : World)
    → Step plan old event a → Step plan old event b → a.armed ≡ b.armed → a ≡ b

-- an adoption is a function of the two plans and the world
abbrev pub AdoptionIsAFunction : Type 0
AdoptionIsAFunction =
    (plan : Network) (old : World) (next : Network) (a b : World)
    → Adopts plan old next a → Adopts plan old next b → a ≡ b

-- ---- what can happen

-- an instance enters at a node and goes over one hop: asked, agreed, sent, taken and answered
abbrev pub one_store : Text → Text → Instance → Contexts → List Action
one_store from to item accepted =
    Occurs (Take from item (Ok New)) ∷ Occurs (Ask from to)
    ∷ Occurs (AgreeReceiver 1 (Some accepted)) ∷ Occurs (AgreeCaller 1 None) ∷ Occurs (Give 1 None)
    ∷ Occurs (Receive 1 (Ok New)) ∷ Occurs (Answered 1 (Ok tt)) ∷ []

-- one store has come about: the row is done, and the receiver has the very instance
abbrev pub IsStored : World → Text → Text → Instance → Type 0
IsStored w from to item = HasRow w from item.uid to Done × HadArrival w to from item

-- One store over one hop can happen, from the start to the done row.
abbrev pub OneHopRuns : Type 0
OneHopRuns =
    (plan : Network) (from to : Text) (item : Instance) (accepted : Contexts)
    → HasNode plan from → from ≢ to
    → Sends plan from local item.key to
    → AcceptsOffered plan from to accepted
    → Accepts plan to from item.key.class item.key.syntax
    → (w : World)
    × Runs plan start (one_store from to item accepted) plan w
    × IsStored w from to item

-- the instance is forgotten at the node that sent it, and its uid enters there again, maybe with
-- another data set
abbrev pub forgotten_and_back : Text → Instance → Instance → List Action
forgotten_and_back from item other =
    Occurs (Forget from item.uid (Ok tt)) ∷ Occurs (Take from other (Ok New)) ∷ []

-- the node has the other instance now, had both, and the next node had the first
pub record IsBack (w : World) (from to : Text) (item other : Instance) : Type 0 where
  pub had : HadArrival w from local item
  pub has_other : map.get (w.books from).items other.uid ≡ Some other
  pub had_other : HadArrival w from local other
  pub passed_on : HadArrival w to from item

-- Where an instance goes to one node alone, it can be forgotten once this has it, and its uid comes
-- again, with the same data set or another: it is new.
abbrev pub AForgettingRuns : Type 0
AForgettingRuns =
    (plan : Network) (from to : Text) (item other : Instance) (accepted : Contexts)
    → HasNode plan from → from ≢ to
    → Sends plan from local item.key to
    → ((dest : Text) → Sends plan from local item.key dest → dest ≡ to)
    → AcceptsOffered plan from to accepted
    → Accepts plan to from item.key.class item.key.syntax
    → other.uid ≡ item.uid
    → IsReached plan other.key local from
    → (w : World)
    × Runs plan start (one_store from to item accepted ++ forgotten_and_back from item other) plan w
    × IsBack w from to item other

-- another instance of the same uid entered at the next node: that refuses what goes over the hop
abbrev pub one_refusal : Text → Text → Instance → Instance → Contexts → List Action
one_refusal from to item other accepted =
    Occurs (Take to other (Ok New)) ∷ Occurs (Take from item (Ok New)) ∷ Occurs (Ask from to)
    ∷ Occurs (AgreeReceiver 1 (Some accepted)) ∷ Occurs (AgreeCaller 1 None) ∷ Occurs (Give 1 None)
    ∷ Occurs (Receive 1 (Err fault.Conflict)) ∷ Occurs (Answered 1 (Ok tt)) ∷ []

-- From the start: the row is held; then it is given up, and the journal says so; and then the very
-- instance enters again: it is new, and its row waits.
pub record IsGivenUpAndBack (plan : Network) (from to : Text) (item other : Instance)
    (accepted : Contexts) : Type 0 where
  pub refused : World
  pub refuses : Runs plan start (one_refusal from to item other accepted) plan refused
  pub held : IsHeld (refused.books from) item.uid to
  pub given : World
  pub gives_up : Runs plan refused (Occurs (Drop from item.uid to (Ok tt)) ∷ []) plan given
  pub dropped : HasRow given from item.uid to Dropped
  pub said : WasGivenUp plan from (given.books from).lines item to
  pub back : World
  pub comes : Runs plan given (Occurs (Take from item (Ok New)) ∷ []) plan back
  pub waits : HasRow back from item.uid to (Waiting 0 0)

-- Where the next node has another instance of the uid, a person can give the held row up, and the
-- instance, brought again, waits anew.
abbrev pub ADroppingRuns : Type 0
ADroppingRuns =
    (plan : Network) (from to : Text) (item other : Instance) (accepted : Contexts)
    → HasNode plan from → HasNode plan to
    → from ≢ to
    → Sends plan from local item.key to
    → AcceptsOffered plan from to accepted
    → Accepts plan to from item.key.class item.key.syntax
    → other.uid ≡ item.uid → other ≢ item
    → IsReached plan other.key local to
    → IsGivenUpAndBack plan from to item other accepted

-- In the plan of two nodes, which is sound, each image that enters at the scanner comes to the
-- archive.
abbrev pub TwoNodesRun : Type 0
TwoNodesRun =
    (item : Instance) → item.key.class ≡ image
    → item.key.syntax ≡ Explicit
    → (w : World) × (accepted : Contexts)
    × Runs (two_nodes (keep_all ∷ [])) start (one_store scanner archive item accepted)
    (two_nodes (keep_all ∷ [])) w
    × IsStored w scanner archive item

-- over a sound plan a receiver accepts just the pairs of the hop
abbrev pub AcceptedAreTheHops : Type 0
AcceptedAreTheHops =
    (plan : Network) → IsSound plan
    → (from to : Text) (accepted : Contexts)
    → AcceptsOffered plan from to accepted
    → (pair : Text × Syntax)
    → (set.contains accepted pair ≡ true) ↔ GoesOver plan from to pair

-- ---- what holds in every run beside the claims

-- Each link's number is one that was given out: a new link takes the place of none.
abbrev pub NumbersAreFresh : Type 0
NumbersAreFresh =
    (plan : Network) (actions : List Action) (last : Network) (w : World)
    → Runs plan start actions last w
    → (number : ℕ) (link : Link)
    → IsLink w number link → number ≤ w.opened

-- Each link is over a hop of the plan in force.
abbrev pub LinksAreHops : Type 0
LinksAreHops =
    (plan : Network) (actions : List Action) (last : Network) (w : World)
    → Runs plan start actions last w
    → (number : ℕ) (link : Link)
    → IsLink w number link
    → IsHop last link.caller link.receiver

-- Neither the count of links nor time ever goes back, not by an adoption either: no number is given
-- out twice.
abbrev pub NothingGoesBack : Type 0
NothingGoesBack =
    (plan : Network) (actions : List Action) (mid : Network) (v : World)
    → Runs plan start actions mid v
    → (more : List Action) (last : Network) (w : World)
    → Runs mid v more last w
    → (v.opened ≤ w.opened) × (v.time ≤ w.time)

-- only nodes of the plan are armed
abbrev pub ArmedAreNodes : Type 0
ArmedAreNodes =
    (plan : Network) (actions : List Action) (last : Network) (w : World)
    → Runs plan start actions last w
    → (name : Text)
    → set.contains w.armed name ≡ true
    → HasNode last name

-- right after an adoption no node is armed
abbrev pub NoneIsArmedAfterAdoption : Type 0
NoneIsArmedAfterAdoption =
    (plan : Network) (actions : List Action) (last : Network) (w : World)
    → Runs plan start actions last w
    → (next : Network) (new : World)
    → Adopts last w next new → (name : Text)
    → set.contains new.armed name ≡ false

-- the book that stood is that of that past
abbrev pub AreCarriedOver : World → Text → List Line → Type 0
AreCarriedOver w name past = w.stood name ≡ Fold past

-- Each book is what its journal makes of the empty one. The journal is what there was up to the
-- last adoption, and since then a history under the plan in force: each line is of a call that the
-- book before it accepts. What stood then is the book of that past.
abbrev pub JournalsAreHistories : Type 0
JournalsAreHistories =
    (plan : Network) (actions : List Action) (last : Network) (w : World)
    → Runs plan start actions last w
    → (name : Text)
    → (past : List Line)
    × IsSince (plan_routing last name) past (w.books name)
    × AreCarriedOver w name past
