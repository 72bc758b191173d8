-- Laws of the definitions by which steps are told: which events a step may be, when it may be none,
-- what a step does that may be done, and what may come to an end of ours.
use Rattle.std.specs.Prelude.{◌≡◌, ◌⊎◌, ◌↔◌, ℕ, ◌≤◌, ◌&&◌, nat_le, min, Bool, true, List, []}
use Rattle.std.specs.Prelude.{length, Option, Some, Ok}
use Rattle.dr_base.specs.Texts.{Text}
use Rattle.dr_plan_model.specs.Networks.{Network}
use Rattle.dr_plan_sound.specs.declared.certificate.Certificate.{Certificate}
use Rattle.dr_plan_sound.specs.declared.certificate.Hop.{Hop}
use Rattle.dr_site.specs.Parts.{Part, IsPartOf}
use Rattle.dr_ulstate.specs.declared.table.State.{State}
use Rattle.dr_ulstate.specs.declared.table.Event.TheVariants.{AbortRequest}
use Rattle.dr_ulstate.specs.Table.{state_number}
use Rattle.dr_pdu.specs.declared.pdu.Pdu.{Pdu}
use Rattle.dr_pdu.specs.Feeding.{Feeding}
use Rattle.dr_dimse.specs.declared.command.Command.TheVariants.{StoreRq, StoreRsp, EchoRq}
use Rattle.dr_ledger.specs.Items.{instance_of}
use Rattle.dr_ledger.specs.Replies.{IsNext, Reply}
use Rattle.dr_ledger.specs.declared.content.Job.{Job}
use Rattle.dr_ledger.specs.declared.item.Instance.{Instance}
use Rattle.dr_nego.specs.Proposing.{IsHopTo}
use Rattle.dr_session.specs.declared.ends.Core.{Core}
use Rattle.dr_session.specs.declared.ends.Effect.{Effect}
use Rattle.dr_session.specs.declared.ends.Heard.TheVariants as heard
use Rattle.dr_session.specs.declared.ends.Heard.{Heard}
use Rattle.dr_session.specs.declared.ends.Input.TheVariants as input
use Rattle.dr_session.specs.declared.ends.LinkAction.{LinkAction}
use Rattle.dr_session.specs.declared.ends.Moment.{Moment}
use Rattle.dr_session.specs.Ends.{Terminal as End, HearsOf}
use Rattle.dr_world_model.specs.Among.{Ours}
use Rattle.dr_world_model.specs.Calls.{Answer}
use Rattle.dr_world_model.specs.Events as event
use Rattle.dr_world_model.specs.Events.{Event, HasNode}
use Rattle.dr_world_model.specs.Steps.{IsLink}
use Rattle.dr_world_model.specs.Worlds.{Contexts, Link, World}
use Rattle.dr_world_tie.specs.ByteWorlds.{ByteWorld, Submit, Open, Away, Push, Abort, Release}
use Rattle.dr_world_tie.specs.ByteWorlds.{Close, Late, Restart, Requeue, Drop, Forget, Tick, Refuse}
use Rattle.dr_world_tie.specs.ByteWorlds.{Side, Requestor, Acceptor, StepNote, Done, Skipped}
use Rattle.dr_world_tie.specs.ByteWorlds.{IsMoved, PushNote, Steps, has_cell, is_open, is_over}
use Rattle.dr_world_tie.specs.Channels.{Channel, LiveTerminal}
use Rattle.dr_world_tie.specs.Desks.{Desk, LedgerStep}
use Rattle.dr_world_tie.specs.Foreign.{IsNoSuccess}
use Rattle.dr_world_tie.specs.ForeignLinks.{NoneComesAsOurs, end_of}
use Rattle.dr_world_tie.specs.ForeignWorlds.{Hears, MayMeet, OwnEnd, OwnSteps, OwnWorld}
use Rattle.dr_world_tie.specs.MixedChanges.{MayMixedTake}
use Rattle.dr_world_tie.specs.MixedWorlds.{MayAsk, MixedWorld}
use Rattle.dr_world_tie.specs.Moves.{IsLeft, IsOfCaller, IsOfReceiver}
use Rattle.dr_world_tie.specs.Shown.{IsNamed, IsSilent, is_on}

-- ---- which events a step may be

-- A receiver that gets bytes answers the request, takes what it is sent, or leaves. A caller reads
-- what was answered, or leaves.
pub record MovesAreOfTheirEnds : Type 0 where
  pub receiver : (number : ℕ) (e : Event)
      → IsOfReceiver number e
      → ((answer : Option Contexts) × (e ≡ event.AgreeReceiver number answer))
      ⊎ (((reply : Reply) × (e ≡ event.Receive number reply))
      ⊎ (e ≡ event.BreakReceiver number))
  pub caller : (number : ℕ) (e : Event)
      → IsOfCaller number e
      → ((answer : Option Answer) × (e ≡ event.AgreeCaller number answer))
      ⊎ (((answer : Answer) × (e ≡ event.Answered number answer))
      ⊎ ((answer : Option Answer) × (e ≡ event.BreakCaller number answer)))

-- a side of the link leaves
abbrev pub IsBreak : ℕ → Side → Event → Type 0
IsBreak number Requestor e = (answer : Option Answer) × (e ≡ event.BreakCaller number answer)
IsBreak number Acceptor e = e ≡ event.BreakReceiver number

-- Each other step is an event of its own kind, at the nodes or the link that it names.
pub record StepsAreOfTheirKind : Type 0 where
  pub submit : (node : Text) (item : Job) (e : Event)
      → IsNamed (Submit node item) e
      → (reply : Reply) × (e ≡ event.Take node (instance_of item) reply)
  pub opening : (from to : Text) (e : Event) → IsNamed (Open from to) e → e ≡ event.Ask from to
  pub away : (from to : Text) (e : Event)
      → IsNamed (Away from to) e
      → (uid : Text) × (answer : Answer) × (e ≡ event.StayAway from uid to answer)
  pub push : (number : ℕ) (e : Event)
      → IsNamed (Push number) e
      → ((answer : Option Answer) × (e ≡ event.Give number answer))
      ⊎ (((answer : Answer) × (e ≡ event.PassOver number answer)) ⊎ IsBreak number Requestor e)
  pub abort : (number : ℕ) (side : Side) (e : Event)
      → IsNamed (Abort number side) e → IsBreak number side e
  pub release : (number : ℕ) (e : Event)
      → IsNamed (Release number) e → IsBreak number Requestor e
  pub close : (number : ℕ) (e : Event)
      → IsNamed (Close number) e
      → (answer : Option Answer) × (e ≡ event.Close number answer)
  pub late : (number : ℕ) (side : Side) (e : Event)
      → IsNamed (Late number side) e → IsBreak number side e
  pub restart : (node : Text) (e : Event)
      → IsNamed (Restart node) e
      → (answers : List (Option Answer)) × (e ≡ event.Restart node answers)
  pub requeue : (node uid dest : Text) (e : Event)
      → IsNamed (Requeue node uid dest) e
      → (answer : Answer) × (e ≡ event.Requeue node uid dest answer)
  pub drop : (node uid dest : Text) (e : Event)
      → IsNamed (Drop node uid dest) e
      → (answer : Answer) × (e ≡ event.Drop node uid dest answer)
  pub forget : (node uid : Text) (e : Event)
      → IsNamed (Forget node uid) e
      → (answer : Answer) × (e ≡ event.Forget node uid answer)
  pub tick : (ms : ℕ) (e : Event) → IsNamed (Tick ms) e → e ≡ event.Tick ms
  pub refuse : (node : Text) (e : Event) → IsNamed (Refuse node) e → e ≡ event.Refuse node

-- ---- which steps may be no event

-- A push is silent only where the caller is off or has no row due; an abort and a late mark only
-- where their side is off. All that a node is told but to forget is never silent, nor are an
-- opening, a release, a close and the passing of time.
pub record WhatIsToldIsSeen : Type 0 where
  pub push : (b : ByteWorld) (w : World) (number : ℕ) (link : Link) (item : Instance)
      → IsLink w number link
      → link.caller_connected ≡ true
      → IsNext (w.books link.caller) link.receiver w.time item
      → IsSilent b w (Push number) → ⊥
  pub abort : (b : ByteWorld) (w : World) (number : ℕ) (link : Link) (side : Side)
      → IsLink w number link
      → is_on side link ≡ true → IsSilent b w (Abort number side) → ⊥
  pub late : (b : ByteWorld) (w : World) (number : ℕ) (link : Link) (side : Side)
      → IsLink w number link
      → is_on side link ≡ true → IsSilent b w (Late number side) → ⊥
  pub submit : (b : ByteWorld) (w : World) (node : Text) (item : Job)
      → IsSilent b w (Submit node item) → ⊥
  pub opening : (b : ByteWorld) (w : World) (from to : Text) → IsSilent b w (Open from to) → ⊥
  pub away : (b : ByteWorld) (w : World) (from to : Text) → IsSilent b w (Away from to) → ⊥
  pub release : (b : ByteWorld) (w : World) (number : ℕ) → IsSilent b w (Release number) → ⊥
  pub close : (b : ByteWorld) (w : World) (number : ℕ) → IsSilent b w (Close number) → ⊥
  pub restart : (b : ByteWorld) (w : World) (node : Text) → IsSilent b w (Restart node) → ⊥
  pub requeue : (b : ByteWorld) (w : World) (node uid dest : Text)
      → IsSilent b w (Requeue node uid dest) → ⊥
  pub drop : (b : ByteWorld) (w : World) (node uid dest : Text)
      → IsSilent b w (Drop node uid dest) → ⊥
  pub tick : (b : ByteWorld) (w : World) (ms : ℕ) → IsSilent b w (Tick ms) → ⊥
  pub refuse : (b : ByteWorld) (w : World) (node : Text) → IsSilent b w (Refuse node) → ⊥

-- ---- what is done

-- As many bytes are moved as were asked for, or all that is left of the PDU where that is less.
abbrev pub MovesAreWhole : Type 0
MovesAreWhole =
    (t : LiveTerminal) (wire : List ℕ) (n m : ℕ)
    → IsMoved t wire n m
    → (m ≤ n)
    × ((front : Pdu) (left : List ℕ) → IsLeft t wire front left → m ≡ min n (length left))

-- A link over a hop is opened. A push that is skipped wrote nothing.
pub record WhatMayBeIsDone : Type 0 where
  pub opening : (plan : Network) (certificate : Certificate) (b new : ByteWorld) (caller : Part)
      (to : Text) (hop : Hop) (note : StepNote)
      → IsPartOf plan certificate caller → IsHopTo caller to hop
      → Steps plan certificate b (Open caller.name to) note new
      → note ≡ Done
  pub push : (x : Effect) → PushNote Skipped x → x.acts ≡ []

-- What a node of the plan is told, it does: nothing of it is skipped.
pub record WhatNodesAreToldIsDone : Type 0 where
  pub submit : (plan : Network) (certificate : Certificate) (b new : ByteWorld) (node : Text)
      (item : Job)
      → HasNode plan node → Steps plan certificate b (Submit node item) Skipped new → ⊥
  pub restart : (plan : Network) (certificate : Certificate) (b new : ByteWorld) (node : Text)
      → HasNode plan node → Steps plan certificate b (Restart node) Skipped new → ⊥
  pub requeue : (plan : Network) (certificate : Certificate) (b new : ByteWorld)
      (node uid dest : Text)
      → HasNode plan node → Steps plan certificate b (Requeue node uid dest) Skipped new → ⊥
  pub drop : (plan : Network) (certificate : Certificate) (b new : ByteWorld)
      (node uid dest : Text)
      → HasNode plan node → Steps plan certificate b (Drop node uid dest) Skipped new → ⊥
  pub forget : (plan : Network) (certificate : Certificate) (b new : ByteWorld) (node uid : Text)
      → HasNode plan node → Steps plan certificate b (Forget node uid) Skipped new → ⊥
  pub refuse : (plan : Network) (certificate : Certificate) (b new : ByteWorld) (node : Text)
      → HasNode plan node → Steps plan certificate b (Refuse node) Skipped new → ⊥

-- An association is open from Sta6 to Sta12 (PS3.8 9.2.1).
abbrev pub OpenFromSixToTwelve : Type 0
OpenFromSixToTwelve =
    (s : State) → is_open s ≡ (nat_le 6 (state_number s) && nat_le (state_number s) 12)

-- Where all of ours take a plan, neither end of a link between two of ours is on.
abbrev pub TakesOverNothingOn : Type 0
TakesOverNothingOn =
    (ours : Ours) (plan next : Network) (b : MixedWorld) (number : ℕ) (k : Channel)
    → MayMixedTake ours plan b next
    → b.pairs number ≡ Some k
    → (is_over k.caller.core ≡ true) × (is_over k.receiver.core ≡ true)

-- ---- what may come

-- What is no bytes names no caller, so that it may always come to an acceptor.
pub record WhatIsNoBytesMayCome : Type 0 where
  pub end : (ours : Ours) (ear new : Feeding) → NoneComesAsOurs ours ear heard.End new
  pub fault : (ours : Ours) (ear new : Feeding) → NoneComesAsOurs ours ear heard.Fault new
  pub late : (ours : Ours) (ear new : Feeding) → NoneComesAsOurs ours ear heard.Late new
  pub idle : (ours : Ours) (ear new : Feeding) → NoneComesAsOurs ours ear heard.Idle new
  pub crowded : (ours : Ours) (ear new : Feeding) → NoneComesAsOurs ours ear heard.Crowded new
  pub memory : (ours : Ours) (ear new : Feeding) → NoneComesAsOurs ours ear heard.Memory new

-- An end of a link to another product may always be told to abort, be late, or have its connection
-- ended. A requestor alone is asked to send a row, or for the release.
pub record EndsMayMeet : Type 0 where
  pub aborts : (side : Side) → MayMeet input.AbortAsked side
  pub late : (side : Side) → MayMeet input.Late side
  pub ended : (side : Side) → MayMeet input.Ended side
  pub sends : (side : Side) → MayMeet input.PushAsked side ↔ (side ≡ Requestor)
  pub releases : (side : Side) → MayMeet input.ReleaseAsked side ↔ (side ≡ Requestor)

-- The same of an end between two of ours, where an acceptor aborts just where the table says how.
pub record EndsMayBeAsked : Type 0 where
  pub late : (side : Side) (c : Core) → MayAsk side c input.Late
  pub ended : (side : Side) (c : Core) → MayAsk side c input.Ended
  pub aborts : (c : Core) → MayAsk Requestor c input.AbortAsked
  pub acceptor_aborts : (c : Core)
      → MayAsk Acceptor c input.AbortAsked ↔ (has_cell AbortRequest c ≡ true)
  pub sends : (c : Core) → MayAsk Acceptor c input.PushAsked → ⊥
  pub releases : (c : Core) → MayAsk Acceptor c input.ReleaseAsked → ⊥

-- What comes over a connection comes at the world's moment, and is heard by the end and the desk
-- that are there.
abbrev pub WhatComesComesNow : Type 0
WhatComesComesNow =
    (ours : Ours) (plan : Network) (certificate : Certificate) (b new : OwnWorld) (number : ℕ)
    (came : Heard) (e : OwnEnd)
    → b.ends number ≡ Some e
    → OwnSteps ours plan certificate b (Hears number came) new
    → (moment : Moment) × (acts : List LinkAction) × (left : End) × (after : Desk)
    × (moment.now ≡ b.time)
    × HearsOf (LedgerStep plan e.node) came moment (end_of e.terminal) (b.desks e.node) (Ok acts)
    left after

-- Nothing that says that a store succeeded: no request, and no response to a store with status 0.
pub record NoRequestIsWritten : Type 0 where
  pub store : (id : ℕ) (class instance : Text) → IsNoSuccess (StoreRq id class instance) → ⊥
  pub echo : (id : ℕ) (class : Text) (has_data : Bool) → IsNoSuccess (EchoRq id class has_data) → ⊥
  pub success : (id : ℕ) (class instance : Text) (has_data : Bool)
      → IsNoSuccess (StoreRsp id 0 class instance has_data) → ⊥
