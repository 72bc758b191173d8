-- Which message world stands beside a world of bytes, and what steps do to both.
use Rattle.std.specs.Prelude.{◌≡◌, ◌⊎◌, ◌<◌, ℕ, Bool, true, false, List, [], ◌∷◌, length, Option}
use Rattle.std.specs.Prelude.{Some, None}
use Rattle.std.specs.Prelude.{map as mapped}
use Rattle.std.specs.FinMap as map
use Rattle.dr_base.specs.Texts.{Text}
use Rattle.dr_plan_model.specs.Networks.{Network}
use Rattle.dr_plan_sound.specs.declared.certificate.Certificate.{Certificate}
use Rattle.dr_site.specs.Sites.{IsCertified}
use Rattle.dr_ledger.specs.Items.{instance_of}
use Rattle.dr_pdu.specs.declared.pdu.Pdu.{Pdu}
use Rattle.dr_ledger.specs.declared.item.Instance.{Instance}
use Rattle.dr_ledger.specs.Replies.{IsNext}
use Rattle.dr_world_model.specs.Worlds.{World, Link, start}
use Rattle.dr_world_model.specs.Runs.{Occurs, Runs}
use Rattle.dr_world_model.specs.Steps.{IsLink, pending}
use Rattle.dr_world_model.specs.Events.{Event, Step, Take, Ask, Give, PassOver, BreakCaller}
use Rattle.dr_world_model.specs.Events.{BreakReceiver}
use Rattle.dr_world_model.specs.Events as event
use Rattle.dr_world_model.specs.Claims.{Headline}
use Rattle.dr_world_model.specs.Theorem.{Lasts}
use Rattle.dr_world_tie.specs.Channels.{LiveTerminal, Channel, ShowsLink}
use Rattle.dr_world_tie.specs.Ties.{IsDeskOf, IsData}
use Rattle.dr_world_tie.specs.Moves.{IsLeft, IsOfReceiver, IsOfCaller}
use Rattle.dr_world_tie.specs.ByteWorlds.{ByteWorld, beginning, WorldStep, Submit, Open, Away, Push}
use Rattle.dr_world_tie.specs.ByteWorlds.{Move, Abort, Release, Close, Late, Restart, Requeue, Drop}
use Rattle.dr_world_tie.specs.ByteWorlds.{Forget, Tick, Refuse, Side, Requestor, Acceptor, StepNote}
use Rattle.dr_world_tie.specs.ByteWorlds.{Skipped, Steps}

-- a number has a channel and the link that it is, or neither
abbrev pub ShowsAt : Network → Certificate → Option Channel → Option Link → Type 0
ShowsAt plan certificate None None = Unit {0}
ShowsAt plan certificate (Some k) (Some link) = ShowsLink plan certificate k link
ShowsAt plan certificate None (Some link) = ⊥
ShowsAt plan certificate (Some k) None = ⊥

-- the same time, the same books, armed alike, and each link shown
pub record ShowsWorld (plan : Network) (certificate : Certificate) (b : ByteWorld)
    (w : World) : Type 0 where
  pub time : w.time ≡ b.time
  pub opened : w.opened ≡ b.opened
  pub desks : (name : Text) → IsDeskOf w name (b.desks name)
  pub links : (number : ℕ)
      → ShowsAt plan certificate (map.get b.links number) (map.get w.links number)

-- the events that a step may be
abbrev pub IsNamed : WorldStep → Event → Type 0
IsNamed (Submit node item) (Take name instance reply) =
    (name ≡ node) × (instance ≡ instance_of item)
IsNamed (Open from to) (Ask caller receiver) = (caller ≡ from) × (receiver ≡ to)
IsNamed (Away from to) (event.StayAway node uid dest answer) = (node ≡ from) × (dest ≡ to)
IsNamed (Push link) (Give number answer) = number ≡ link
IsNamed (Push link) (PassOver number answer) = number ≡ link
IsNamed (Push link) (BreakCaller number answer) = number ≡ link
IsNamed (Move link Acceptor n) event = IsOfReceiver link event
IsNamed (Move link Requestor n) event = IsOfCaller link event
IsNamed (Abort link Requestor) (BreakCaller number answer) = number ≡ link
IsNamed (Abort link Acceptor) (BreakReceiver number) = number ≡ link
IsNamed (Release link) (BreakCaller number answer) = number ≡ link
IsNamed (Close link) (event.Close number answer) = number ≡ link
IsNamed (Late link Requestor) (BreakCaller number answer) = number ≡ link
IsNamed (Late link Acceptor) (BreakReceiver number) = number ≡ link
IsNamed (Restart node) (event.Restart name answers) = name ≡ node
IsNamed (Requeue node uid dest) (event.Requeue name row to answer) =
    (name ≡ node) × (row ≡ uid) × (to ≡ dest)
IsNamed (Drop node uid dest) (event.Drop name row to answer) =
    (name ≡ node) × (row ≡ uid) × (to ≡ dest)
IsNamed (Forget node uid) (event.Forget name item answer) = (name ≡ node) × (item ≡ uid)
IsNamed (Tick ms) (event.Tick passed) = passed ≡ ms
IsNamed (Refuse node) (event.Refuse name) = name ≡ node
IsNamed step event = ⊥

-- whether the side of the link is connected
abbrev pub is_on : Side → Link → Bool
is_on Requestor link = link.caller_connected
is_on Acceptor link = link.receiver_connected

-- it isn't any more
abbrev pub IsOffAt : World → ℕ → Side → Type 0
IsOffAt w number side = (link : Link) × IsLink w number link × (is_on side link ≡ false)

-- so few bytes end no message: there is more of the PDU at the front, or it is a value of data
abbrev pub EndsNone : LiveTerminal → List ℕ → ℕ → Type 0
EndsNone t wire n =
    (front : Pdu) × (left : List ℕ) × IsLeft t wire front left × ((n < length left) ⊎ IsData front)

abbrev pub EndsNoneAt : Channel → Side → ℕ → Type 0
EndsNoneAt k Requestor n = EndsNone k.caller k.to_caller n
EndsNoneAt k Acceptor n = EndsNone k.receiver k.to_receiver n

-- no row is due
abbrev pub HasNoneDue : World → Link → Type 0
HasNoneDue w link = (item : Instance) → IsNext (w.books link.caller) link.receiver w.time item → ⊥

-- the caller of a link, connected, has the uid pending, which its node was to forget
abbrev pub SomeIsPending : World → Text → Text → Type 0
SomeIsPending w name uid = (number : ℕ) × (link : Link) × (item : Instance) × IsLink w number link
    × (link.caller ≡ name) × (link.caller_connected ≡ true) × (pending link.stage ≡ Some item)
    × (item.uid ≡ uid)

-- Where a step that isn't skipped is no event: the end is off already, nothing was due, the bytes
-- end no message, or what is to be forgotten is pending.
abbrev pub IsSilent : ByteWorld → World → WorldStep → Type 0
IsSilent b w (Push number) =
    IsOffAt w number Requestor ⊎ ((link : Link) × IsLink w number link × HasNoneDue w link)
IsSilent b w (Move number side n) =
    IsOffAt w number side
    ⊎ ((k : Channel) × (map.get b.links number ≡ Some k) × EndsNoneAt k side n)
IsSilent b w (Abort number side) = IsOffAt w number side
IsSilent b w (Late number side) = IsOffAt w number side
IsSilent b w (Forget name uid) = SomeIsPending w name uid
IsSilent b w step = ⊥

-- no event, where the step is skipped or silent, or one that the step may be
abbrev pub Comes : Network → ByteWorld → WorldStep → StepNote → World → World → Type 0
Comes plan b step note w v =
    ((v ≡ w) × ((note ≡ Skipped) ⊎ IsSilent b w step))
    ⊎ ((event : Event) × IsNamed step event × Step plan w event v)

-- A step of a world that is shown leads to one that is shown, by an event of its kind or by none.
abbrev pub WorldStepsAreEvents : Type 0
WorldStepsAreEvents =
    (plan : Network) (certificate : Certificate)
    → IsCertified plan certificate
    → (b new : ByteWorld) (w : World) (step : WorldStep) (note : StepNote)
    → ShowsWorld plan certificate b w
    → Steps plan certificate b step note new
    → ∥ ((v : World) × Comes plan b step note w v × ShowsWorld plan certificate new v) ∥₁

-- steps one after the other
abbrev pub RunsOf : Network → Certificate → ByteWorld → List WorldStep → ByteWorld → Type 0
RunsOf plan certificate b [] new = new ≡ b
RunsOf plan certificate b (step ∷ steps) new =
    (note : StepNote) × (mid : ByteWorld)
    × Steps plan certificate b step note mid
    × RunsOf plan certificate mid steps new

-- events of the plan lead from the start to the world
abbrev pub ComesAbout : Network → World → Type 0
ComesAbout plan w = (events : List Event) × Runs plan start (mapped Occurs events) plan w

-- After any steps from the beginning a world stands beside the bytes, with their books, to which
-- events of the plan lead, and of which the headline's four claims hold.
abbrev pub RunsKeepTheHeadline : Type 0
RunsKeepTheHeadline =
    (plan : Network) (certificate : Certificate)
    → IsCertified plan certificate
    → (steps : List WorldStep) (b : ByteWorld)
    → RunsOf plan certificate beginning steps b
    → ∥ ((w : World) × ShowsWorld plan certificate b w × ComesAbout plan w × Headline plan w) ∥₁

-- What a node has and keeps after some steps it has and keeps after any further ones, unchanged,
-- and its journal has grown at its end.
abbrev pub WhatIsKeptStaysKept : Type 0
WhatIsKeptStaysKept =
    (plan : Network) (certificate : Certificate)
    → IsCertified plan certificate
    → (steps more : List WorldStep) (b c : ByteWorld)
    → RunsOf plan certificate beginning steps b
    → RunsOf plan certificate b more c
    → ∥ ((v : World) × (w : World)
    × ShowsWorld plan certificate b v
    × ShowsWorld plan certificate c w
    × Lasts v w) ∥₁
