-- What is done to a world's contents is a step of the world of bytes beside it.
use Rattle.std.specs.Prelude.{◌≡◌, ℕ, ◌+◌, ◌^◌, ◌≢◌, min, nat_le, true, false, List, [], length}
use Rattle.std.specs.Prelude.{take, Option, Some, None, Result, Ok, Err}
use Rattle.std.specs.FinMap as map
use Rattle.dr_base.specs.Texts.{Text}
use Rattle.dr_route.specs.Routes.{local}
use Rattle.dr_plan_model.specs.Networks.{Network}
use Rattle.dr_plan_sound.specs.declared.certificate.Certificate.{Certificate}
use Rattle.dr_site.specs.Sites.{IsCertified}
use Rattle.dr_ledger.specs.declared.content.Job.{Job}
use Rattle.dr_ledger.specs.declared.fault.LedgerFault.{LedgerFault}
use Rattle.dr_ledger.specs.Books.{empty_book}
use Rattle.dr_ledger.specs.SiteRoutes.{site_routing}
use Rattle.dr_session.specs.declared.ends.Core.{Core}
use Rattle.dr_session.specs.declared.ends.Effect.{Effect}
use Rattle.dr_session.specs.Desks.{DeskCall, DeskAnswer, Arrive, Arrival}
use Rattle.dr_session.specs.Plays.{At, Reacts}
use Rattle.dr_session.specs.Ledgers.{Desk, RoutedStep, desk}
use Rattle.dr_ledger.specs.Refusals.{Arms}
use Rattle.dr_ledger.specs.Replies.{Drops, Forgets, Requeues, IsHeld, IsOver, Reply}
use Rattle.dr_node.specs.Desks.{StaysAway}
use Rattle.dr_node.specs.Sides.{others}
use Rattle.dr_world_model.specs.Calls.{Answer}
use Rattle.dr_world_tie.specs.ByteWorlds.{ByteWorld, beginning, WorldStep, Side}
use Rattle.dr_world_tie.specs.ByteWorlds.{Submit, Away, Move, Restart, Requeue, Drop, Forget, Tick}
use Rattle.dr_world_tie.specs.ByteWorlds.{Refuse, Refused, StepNote}
use Rattle.dr_world_tie.specs.ByteWorlds.{Done, Skipped, UnderWay, AreOthers, IsMoved, note_of}
use Rattle.dr_session.specs.declared.ends.Heard.TheVariants as heard
use Rattle.dr_session.specs.declared.ends.LinkAction.{LinkAction}
use Rattle.dr_session.specs.Ends.{is_gone, state_in}
use Rattle.dr_node.specs.declared.event.LinkEvent.TheVariants as event
use Rattle.dr_world_tie.specs.Channels.{LiveTerminal}
use Rattle.dr_world.specs.Ends.{IsDoneAtEnd, wire_at}
use Rattle.dr_world.specs.Forgotten.{pends}
use Rattle.dr_world.specs.Nodes.{event_at}
use Rattle.dr_world.specs.Shows.{Contents, Seat, ShowsBytes, IsSeated, Becomes, with_seat}
use Rattle.dr_world.specs.Shows.{with_desk_of}

-- How many links a node has accepted and not left is how many others the world of bytes counts.
abbrev pub OtherLinksAreCounted : Type 0
OtherLinksAreCounted =
    (c : Contents) (b : ByteWorld)
    → ShowsBytes c b
    → (link : ℕ) (name : Text) (seat : Seat)
    → c.seats name ≡ Some seat
    → (numbers : List ℕ) × AreOthers b link name numbers × (others link seat.sides ≡ length numbers)

-- ---- the beginning

-- no time has passed, no link was opened, and each node has an empty book, no side, and a store
-- that isn't to refuse
pub record IsNewWorld (c : Contents) : Type 0 where
  pub now : c.now ≡ 0
  pub opened : c.opened ≡ 0
  pub wires : (number : ℕ) → c.wires number ≡ None
  pub seats : (name : Text) (seat : Seat)
      → c.seats name ≡ Some seat
      → (seat.desk ≡ desk empty_book false) × (seat.sides ≡ map.empty)

-- A new world stands beside the beginning.
abbrev pub NewIsBeginning : Type 0
NewIsBeginning = (c : Contents) → IsNewWorld c → ShowsBytes c beginning

-- ---- steps at no link

abbrev pub with_time : Contents → ℕ → Contents
with_time c now = record { now = now; opened = c.opened; seats = c.seats; wires = c.wires }

abbrev pub with_seats : Contents → Text → Seat → Contents
with_seats c name seat =
    record { now = c.now; opened = c.opened; seats = with_seat c.seats name seat; wires = c.wires }

abbrev pub TickIsShown : Type 0
TickIsShown =
    (plan : Network) (certificate : Certificate) (c : Contents) (b : ByteWorld)
    → ShowsBytes c b → (ms : ℕ)
    → Becomes plan certificate b (Tick ms) Done (with_time c (min (c.now + ms) (2 ^ 62)))

-- how it is noted what a node did that came to no link: the row that is due later, that none was
-- due, or why it couldn't be done
abbrev pub away_note : Result (Option Text) LedgerFault → StepNote
away_note (Ok (Some uid)) = Done
away_note (Ok None) = Skipped
away_note (Err fault) = Refused fault

-- the step is one at that node alone
abbrev pub IsAtNode : WorldStep → Text → Type 0
IsAtNode (Submit node item) name = node ≡ name
IsAtNode (Away from to) name = from ≡ name
IsAtNode (Restart node) name = node ≡ name
IsAtNode (Requeue node uid dest) name = node ≡ name
IsAtNode (Drop node uid dest) name = node ≡ name
IsAtNode (Forget node uid) name = node ≡ name
IsAtNode (Refuse node) name = node ≡ name
IsAtNode step name = ⊥

-- a name that no node has
abbrev pub StrangerIsSkipped : Type 0
StrangerIsSkipped =
    (plan : Network) (certificate : Certificate) (c : Contents) (b : ByteWorld)
    → IsSeated plan certificate c.seats
    → ShowsBytes c b → (name : Text) → c.seats name ≡ None → (step : WorldStep) → IsAtNode step name
    → Becomes plan certificate b step Skipped c

-- an instance enters at a node
abbrev pub SubmitIsShown : Type 0
SubmitIsShown =
    (plan : Network) (certificate : Certificate)
    → IsCertified plan certificate
    → (c : Contents) (b : ByteWorld)
    → IsSeated plan certificate c.seats
    → ShowsBytes c b
    → (name : Text) (seat : Seat)
    → c.seats name ≡ Some seat
    → (item : Job) (reply : Reply) (t : Desk)
    → RoutedStep (site_routing seat.site) seat.desk (Arrive local item) (Arrival reply) t
    → Becomes plan certificate b (Submit name item) (note_of reply)
    (with_seats c name (with_desk_of seat t))

-- a node comes to no link, at the moment that the world has come to
abbrev pub AwayIsShown : Type 0
AwayIsShown =
    (plan : Network) (certificate : Certificate)
    → IsCertified plan certificate
    → (c : Contents) (b : ByteWorld)
    → IsSeated plan certificate c.seats
    → ShowsBytes c b
    → (name : Text) (seat : Seat)
    → c.seats name ≡ Some seat
    → (to : Text) (result : Result (Option Text) LedgerFault) (t : Desk)
    → StaysAway to c.now seat.desk result t
    → Becomes plan certificate b (Away name to) (away_note result)
    (with_seats c name (with_desk_of seat t))

-- a held row waits again
abbrev pub RequeueIsShown : Type 0
RequeueIsShown =
    (plan : Network) (certificate : Certificate) (c : Contents) (b : ByteWorld)
    → IsSeated plan certificate c.seats
    → ShowsBytes c b
    → (name : Text) (seat : Seat)
    → c.seats name ≡ Some seat
    → (uid dest : Text) (answer : Answer) (t : Desk)
    → Requeues uid dest seat.desk.book answer t.book
    → Arms (IsHeld seat.desk.book uid dest) seat.desk.armed answer t.armed
    → Becomes plan certificate b (Requeue name uid dest) (note_of answer)
    (with_seats c name (with_desk_of seat t))

-- a held row is given up, at the moment that the world has come to
abbrev pub DropIsShown : Type 0
DropIsShown =
    (plan : Network) (certificate : Certificate) (c : Contents) (b : ByteWorld)
    → IsSeated plan certificate c.seats
    → ShowsBytes c b
    → (name : Text) (seat : Seat)
    → c.seats name ≡ Some seat
    → (uid dest : Text) (answer : Answer) (t : Desk)
    → Drops uid dest c.now seat.desk.book answer t.book
    → Arms (IsHeld seat.desk.book uid dest) seat.desk.armed answer t.armed
    → Becomes plan certificate b (Drop name uid dest) (note_of answer)
    (with_seats c name (with_desk_of seat t))

-- a node is told to forget what is under way from it over no link
abbrev pub ForgetIsShown : Type 0
ForgetIsShown =
    (plan : Network) (certificate : Certificate) (c : Contents) (b : ByteWorld)
    → IsSeated plan certificate c.seats
    → ShowsBytes c b
    → (name : Text) (seat : Seat)
    → c.seats name ≡ Some seat
    → (uid : Text) (answer : Answer) (t : Desk)
    → ((number : ℕ) → pends c.seats c.wires name uid number ≡ false)
    → Forgets uid seat.desk.book answer t.book
    → Arms (IsOver seat.desk.book uid) seat.desk.armed answer t.armed
    → Becomes plan certificate b (Forget name uid) (note_of answer)
    (with_seats c name (with_desk_of seat t))

-- what is under way from it stays
abbrev pub UnderWayStays : Type 0
UnderWayStays = (plan : Network) (certificate : Certificate) (c : Contents) (b : ByteWorld) →
    IsSeated plan certificate c.seats → ShowsBytes c b →
    (name uid : Text) (number : ℕ) → pends c.seats c.wires name uid number ≡ true →
    Becomes plan certificate b (Forget name uid) UnderWay c

-- a node's next writing call is to be refused
abbrev pub RefuseIsShown : Type 0
RefuseIsShown =
    (plan : Network) (certificate : Certificate) (c : Contents) (b : ByteWorld)
    → IsSeated plan certificate c.seats
    → ShowsBytes c b
    → (name : Text) (seat : Seat)
    → c.seats name ≡ Some seat
    → Becomes plan certificate b (Refuse name) Done
    (with_seats c name (with_desk_of seat (desk seat.desk.book true)))

-- ---- ends

-- Whatever happens at an end, it stays of its site.
abbrev pub EndStaysOfItsSite : {S : Type 0} → (S → DeskCall → DeskAnswer → S → Type 0) → Type 0
EndStaysOfItsSite {S} step =
    (c : Core) (i : At) (s : S) (x : Effect) (t : S) → Reacts step c i s x t → x.core.site ≡ c.site

-- ---- bytes that come

-- The first bytes of an end's wire that come to it are a Move of at most n bytes, where the end
-- isn't over, there are some, and so many of them came as belong to the PDU at the front.
abbrev pub MoveIsShown : Type 0
MoveIsShown =
    (plan : Network) (certificate : Certificate)
    → IsCertified plan certificate
    → (c : Contents) (b : ByteWorld)
    → IsSeated plan certificate c.seats
    → ShowsBytes c b
    → (link n m : ℕ) (side : Side) (piece : List ℕ) (acts : List LinkAction) (new : Contents)
    → (d : IsDoneAtEnd (event_at (event.Heard (heard.Bytes piece))) m c link side acts new)
    → piece ≡ take m (wire_at side d.wires)
    → wire_at side d.wires ≢ []
    → nat_le 1 n ≡ true
    → is_gone (state_in d.own.end.core) ≡ false
    → ((t : LiveTerminal) → t.ear ≡ d.own.end.ear → IsMoved t (wire_at side d.wires) n m)
    → Becomes plan certificate b (Move link side n) Done new
