-- What is done at a node alone, and what passes with time.
use Rattle.std.specs.Prelude.{◌≡◌, ℕ, ◌+◌, ◌^◌, min, true, false}
use Rattle.std.specs.FinSet as set
use Rattle.dr_base.specs.Texts.{Text}
use Rattle.dr_route.specs.Routes.{local}
use Rattle.dr_plan_model.specs.Networks.{Network}
use Rattle.dr_ledger.specs.declared.content.Job.{Job}
use Rattle.dr_ledger.specs.declared.item.Outcome.TheVariants.{Broken}
use Rattle.dr_ledger.specs.Items.{instance_of}
use Rattle.dr_ledger.specs.Refusals.{Arms}
use Rattle.dr_ledger.specs.Replies.{Drops, Forgets, Requeues, IsHeld, IsOver, Reply}
use Rattle.dr_session.specs.Desks.{Arrive, Arrival, Settle, Settling}
use Rattle.dr_session.specs.Ledgers.{desk}
use Rattle.dr_world_model.specs.Worlds.{World, same_text}
use Rattle.dr_world_model.specs.Calls.{Answer}
use Rattle.dr_world_model.specs.Steps.{NoneIsPending}
use Rattle.dr_world_model.specs.Events.{Event, Step, HasNode, Take, Requeue, Drop}
use Rattle.dr_world_model.specs.Events.{Forget, Refuse, StayAway, Tick}
use Rattle.dr_world_tie.specs.Desks.{Desk, LedgerStep}
use Rattle.dr_world_tie.specs.Ties.{IsDeskOf}

-- all else is as it was, and all links
pub record OnlyAt (w v : World) (name : Text) : Type 0 where
  pub books : (other : Text) → same_text other name ≡ false → v.books other ≡ w.books other
  pub armed : (other : Text)
      → same_text other name ≡ false
      → set.contains v.armed other ≡ set.contains w.armed other
  pub links : v.links ≡ w.links
  pub rest : (v.time ≡ w.time) × (v.stood ≡ w.stood) × (v.opened ≡ w.opened)

-- the event happens at this node alone
pub record HappensAt (plan : Network) (w : World) (event : Event) (name : Text)
    (t : Desk) : Type 0 where
  pub after : World
  pub step : Step plan w event after
  pub desk_is : IsDeskOf after name t
  pub only : OnlyAt w after name

-- An instance that enters at a node, whatever the ledger answers.
abbrev pub SubmittingTakes : Type 0
SubmittingTakes =
    (plan : Network) (w : World) (name : Text) (job : Job) (s t : Desk) (reply : Reply)
    → HasNode plan name → IsDeskOf w name s
    → LedgerStep plan name s (Arrive local job) (Arrival reply) t
    → HappensAt plan w (Take name (instance_of job) reply) name t

-- A row that a caller settles as broken where it came to no link, whatever the ledger answers. This
-- is the call that a running node makes when it comes to no connection, or to none over which a row
-- was settled; it found the row before, as the first that was due.
abbrev pub StayingAwayIsStayAway : Type 0
StayingAwayIsStayAway =
    (plan : Network) (w : World) (name uid dest : Text) (s t : Desk) (answer : Answer)
    → HasNode plan name → IsDeskOf w name s
    → LedgerStep plan name s (Settle uid dest Broken w.time) (Settling answer) t
    → HappensAt plan w (StayAway name uid dest answer) name t

-- what a ledger's `requeue` does
abbrev pub RequeuesAt : Desk → Text → Text → Answer → Desk → Type 0
RequeuesAt old uid dest answer new =
    Requeues uid dest old.book answer new.book
    × Arms (IsHeld old.book uid dest) old.armed answer new.armed

-- A row that is put back, whatever the ledger answers.
abbrev pub RequeueingIsRequeue : Type 0
RequeueingIsRequeue =
    (plan : Network) (w : World) (name uid dest : Text) (s t : Desk) (answer : Answer)
    → HasNode plan name → IsDeskOf w name s
    → RequeuesAt s uid dest answer t
    → HappensAt plan w (Requeue name uid dest answer) name t

-- what a ledger's `give_up` does at a moment
abbrev pub GivesUpAt : Desk → Text → Text → ℕ → Answer → Desk → Type 0
GivesUpAt old uid dest now answer new =
    Drops uid dest now old.book answer new.book
    × Arms (IsHeld old.book uid dest) old.armed answer new.armed

-- A row that is given up at the world's moment, whatever the ledger answers.
abbrev pub GivingUpIsDrop : Type 0
GivingUpIsDrop =
    (plan : Network) (w : World) (name uid dest : Text) (s t : Desk) (answer : Answer)
    → HasNode plan name → IsDeskOf w name s
    → GivesUpAt s uid dest w.time answer t
    → HappensAt plan w (Drop name uid dest answer) name t

-- what a ledger's `forget` does
abbrev pub ForgetsAt : Desk → Text → Answer → Desk → Type 0
ForgetsAt old uid answer new =
    Forgets uid old.book answer new.book × Arms (IsOver old.book uid) old.armed answer new.armed

-- What a node forgets while it has nothing of that uid pending, whatever the ledger answers.
abbrev pub ForgettingIsForget : Type 0
ForgettingIsForget = (plan : Network) (w : World) (name uid : Text) (s t : Desk) (answer : Answer) →
    HasNode plan name → NoneIsPending w name uid → IsDeskOf w name s → ForgetsAt s uid answer t →
    HappensAt plan w (Forget name uid answer) name t

-- A ledger that is told to refuse, whatever it was told before.
abbrev pub RefusingIsRefuse : Type 0
RefusingIsRefuse =
    (plan : Network) (w : World) (name : Text) (s : Desk)
    → HasNode plan name → IsDeskOf w name s
    → HappensAt plan w (Refuse name) name (desk s.book true)

-- As time passes each node, each link and each number stays as it is, and the time is at most 2^62.
abbrev pub TimePasses : Type 0
TimePasses =
    (plan : Network) (w : World) (ms : ℕ)
    → (v : World) × Step plan w (Tick ms) v
    × (v.time ≡ min (w.time + ms) (2 ^ 62))
    × ((name : Text) (s : Desk) → IsDeskOf w name s → IsDeskOf v name s)
    × (v.links ≡ w.links) × (v.stood ≡ w.stood) × (v.opened ≡ w.opened)
