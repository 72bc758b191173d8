-- The world as bytes: time, each node's book, and for each link its two ends and what is on its
-- wires; and what each step of it does.
use Rattle.std.specs.Prelude.{◌≡◌, ◌≢◌, ◌⊎◌, ◌↔◌, ℕ, ◌+◌, ◌≤◌, ◌^◌, min, ◌&&◌, ◌||◌, not, nat_le}
use Rattle.std.specs.Prelude.{Bool, true, false, List, [], ◌∷◌, length, take, Contains, Option}
use Rattle.std.specs.Prelude.{Some, None, is_some, Result, Ok, Err}
use Rattle.std.specs.Ordering.{nat_cmp}
use Rattle.std.specs.List.Sorted.{IsStrictlySortedBy}
use Rattle.std.specs.FinMap as map
use Rattle.std.specs.FinMap.{FinMap}
use Rattle.dr_base.specs.Texts.{Text}
use Rattle.dr_route.specs.Routes.{local}
use Rattle.dr_plan_model.specs.Networks.{Network}
use Rattle.dr_plan_sound.specs.declared.certificate.Certificate.{Certificate}
use Rattle.dr_plan_sound.specs.declared.certificate.Hop.{Hop}
use Rattle.dr_site.specs.Parts.{Part, IsPartOf}
use Rattle.dr_ulstate.specs.declared.table.State.{State}
use Rattle.dr_ulstate.specs.declared.table.Event.{Event as UpperEvent}
use Rattle.dr_ulstate.specs.declared.table.Event.TheVariants.{AbortRequest, ReleaseRequest}
use Rattle.dr_ulstate.specs.Table.{action_of, state_number, has}
use Rattle.dr_ulstate.specs.Phases.{state_of, next_expired}
use Rattle.dr_pdu.specs.declared.pdu.Pdu.{Pdu}
use Rattle.dr_pdu.specs.declared.pdu.Pdu.TheVariants as pdu
use Rattle.dr_pdu.specs.Feeding.{Feeding, fresh}
use Rattle.dr_ledger.specs.declared.content.Job.{Job}
use Rattle.dr_ledger.specs.declared.fault.LedgerFault.{LedgerFault}
use Rattle.dr_ledger.specs.declared.item.Outcome.TheVariants.{Broken}
use Rattle.dr_ledger.specs.Books.{empty_book}
use Rattle.dr_ledger.specs.Replies.{Dues, Reads, Reply}
use Rattle.dr_nego.specs.Agreeing.{AssociateRq}
use Rattle.dr_nego.specs.Proposing.{IsProposal, IsHopTo}
use Rattle.dr_nego.specs.Fragments.{spellings}
use Rattle.dr_session.specs.declared.ends.Core.{Core}
use Rattle.dr_session.specs.declared.ends.Effect.{Effect}
use Rattle.dr_session.specs.declared.ends.Input.{Input}
use Rattle.dr_session.specs.declared.ends.Input.TheVariants.{Ended, Late as LateMark, AbortAsked}
use Rattle.dr_session.specs.declared.ends.Input.TheVariants.{ReleaseAsked, PushAsked}
use Rattle.dr_session.specs.declared.ends.Moment.{Moment}
use Rattle.dr_session.specs.Desks.{Arrive, Arrival, Settle, Settling}
use Rattle.dr_session.specs.Ends.{accepting, requesting, is_gone}
use Rattle.dr_session.specs.Pendings.{pending_of}
use Rattle.dr_session.specs.Ledgers.{desk}
use Rattle.dr_session.specs.Plays.{Reacts, PlaysBytes, at_moment}
use Rattle.dr_session.specs.Reactions.{is_idle, is_free, is_impatient}
use Rattle.dr_world_model.specs.Worlds.{same_text}
use Rattle.dr_world_model.specs.Calls.{Answer}
use Rattle.dr_world_model.specs.Events.{HasNode}
use Rattle.dr_world_tie.specs.Desks.{Desk, LedgerStep}
use Rattle.dr_world_tie.specs.Channels.{LiveTerminal, Channel, site_of}
use Rattle.dr_world_tie.specs.Ties.{with_desk, caller_did, receiver_did, caller_read, receiver_read}
use Rattle.dr_world_tie.specs.Moves.{IsLeft}
use Rattle.dr_world_tie.specs.Nodes.{RequeuesAt, GivesUpAt, ForgetsAt}
use Rattle.dr_world_tie.specs.Closing.{IsEnded, closed}

pub record ByteWorld : Type 0 where
  pub time : ℕ  -- milliseconds
  pub desks : Text → Desk  -- of each node, and an empty one for other names
  pub links : FinMap nat_cmp Channel  -- by number
  pub opened : ℕ  -- how many links were ever opened

-- before any step
abbrev pub beginning : ByteWorld
beginning =
    record { time = 0; desks = λ name. desk empty_book false; links = map.empty; opened = 0 }

-- the nodes of the two ends
abbrev pub caller_of : Channel → Text
caller_of k = (site_of k.caller.core).name

abbrev pub receiver_of : Channel → Text
receiver_of k = (site_of k.receiver.core).name

-- after something was done at a node, and with a link of it
abbrev pub with_done : ByteWorld → Text → Desk → ℕ → Channel → ByteWorld
with_done b name t number k = record {
  time = b.time;
  desks = with_desk b.desks name t;
  links = map.insert b.links number k;
  opened = b.opened;
}

abbrev pub with_call : ByteWorld → Text → Desk → ByteWorld
with_call b name t =
    record { time = b.time; desks = with_desk b.desks name t; links = b.links; opened = b.opened }

-- an association that was accepted and isn't over yet (PS3.8 9.2.1: Sta6 to Sta12)
abbrev pub is_open : State → Bool
is_open s = has (state_number s) (6 ∷ 7 ∷ 8 ∷ 9 ∷ 10 ∷ 11 ∷ 12 ∷ [])

-- the other links over which the node was called, and which are open there; each once
abbrev pub AreOthers : ByteWorld → ℕ → Text → List ℕ → Type 0
AreOthers b number name numbers =
    IsStrictlySortedBy nat_cmp numbers
    × ((other : ℕ)
    → Contains numbers other
    ↔ ((other ≢ number)
    × ((k : Channel)
    × (map.get b.links other ≡ Some k)
    × (receiver_of k ≡ name)
    × (is_open (state_of k.receiver.core.phase) ≡ true))))

-- when something happens at an end of that node
abbrev pub IsMoment : ByteWorld → ℕ → Text → Moment → Type 0
IsMoment b number name at =
    (at.now ≡ b.time)
    × ((numbers : List ℕ) × AreOthers b number name numbers × (at.others ≡ length numbers))

-- ---- steps

pub data Side : Type 0 where
  Requestor : Side
  Acceptor : Side

pub data WorldStep : Type 0 where
  Submit : (node : Text) → (item : Job) → WorldStep
  Open : (from : Text) → (to : Text) → WorldStep
  Away : (from : Text) → (to : Text) → WorldStep
  Push : (link : ℕ) → WorldStep
  Move : (link : ℕ) → (reader : Side) → (n : ℕ) → WorldStep
  Abort : (link : ℕ) → (side : Side) → WorldStep
  Release : (link : ℕ) → WorldStep
  Close : (link : ℕ) → WorldStep
  Late : (link : ℕ) → (side : Side) → WorldStep
  Restart : (node : Text) → WorldStep
  Requeue : (node : Text) → (uid : Text) → (dest : Text) → WorldStep
  Drop : (node : Text) → (uid : Text) → (dest : Text) → WorldStep
  Forget : (node : Text) → (uid : Text) → WorldStep
  Tick : (ms : ℕ) → WorldStep
  Refuse : (node : Text) → WorldStep

pub data StepNote : Type 0 where
  Done : StepNote
  Skipped : StepNote
  Refused : (fault : LedgerFault) → StepNote
  UnderWay : StepNote  -- an instance that its node was to forget awaits a response

-- nothing is done
abbrev pub Skips : ByteWorld → StepNote → ByteWorld → Type 0
Skips b note new = (note ≡ Skipped) × (new ≡ b)

abbrev pub DoesIf : Bool → ByteWorld → StepNote → ByteWorld → Type 0 → Type 0
DoesIf true b note new What = (note ≡ Done) × What
DoesIf false b note new What = Skips b note new

-- ---- at an end

-- something is asked of an end, or happens to it
abbrev pub CallerMeets : Network → ByteWorld → ℕ → Channel → Input → ByteWorld → Type 0
CallerMeets plan b number k i new =
    (at : Moment) × (x : Effect) × (t : Desk)
    × IsMoment b number (caller_of k) at
    × Reacts (LedgerStep plan (caller_of k)) k.caller.core (at_moment at i) (b.desks (caller_of k))
    x t
    × (new ≡ with_done b (caller_of k) t number (caller_did k x))

-- A push: it is noted as skipped where nothing was written. (A row that has no context is settled
-- and nothing is written; in the worlds of a sound plan no row is such, as the headline says.)
abbrev pub PushNote : StepNote → Effect → Type 0
PushNote note x = ((note ≡ Done) × (x.acts ≢ [])) ⊎ ((note ≡ Skipped) × (x.acts ≡ []))

abbrev pub CallerPushes : Network → ByteWorld → ℕ → Channel → StepNote → ByteWorld → Type 0
CallerPushes plan b number k note new =
    (at : Moment) × (x : Effect) × (t : Desk)
    × IsMoment b number (caller_of k) at
    × PushNote note x
    × Reacts (LedgerStep plan (caller_of k)) k.caller.core (at_moment at PushAsked)
    (b.desks (caller_of k)) x t
    × (new ≡ with_done b (caller_of k) t number (caller_did k x))

abbrev pub PushesIf : Bool → Network → ByteWorld → ℕ → Channel → StepNote → ByteWorld → Type 0
PushesIf true plan b number k note new = CallerPushes plan b number k note new
PushesIf false plan b number k note new = Skips b note new

abbrev pub ReceiverMeets : Network → ByteWorld → ℕ → Channel → Input → ByteWorld → Type 0
ReceiverMeets plan b number k i new =
    (at : Moment) × (x : Effect) × (t : Desk)
    × IsMoment b number (receiver_of k) at
    × Reacts (LedgerStep plan (receiver_of k)) k.receiver.core (at_moment at i)
    (b.desks (receiver_of k)) x t
    × (new ≡ with_done b (receiver_of k) t number (receiver_did k x))

abbrev pub Meets : Network → ByteWorld → ℕ → Channel → Side → Input → ByteWorld → Type 0
Meets plan b number k Requestor i new = CallerMeets plan b number k i new
Meets plan b number k Acceptor i new = ReceiverMeets plan b number k i new

abbrev pub core_at : Channel → Side → Core
core_at k Requestor = k.caller.core
core_at k Acceptor = k.receiver.core

abbrev pub is_over : Core → Bool
is_over c = is_gone (state_of c.phase)

-- the table has a cell for it there
abbrev pub has_cell : UpperEvent → Core → Bool
has_cell e c = is_some (action_of e (state_of c.phase))

-- A late mark acts: the timer has expired, or a requestor has awaited an answer for too long, and
-- may abort.
abbrev pub acts_late : Core → ℕ → Bool
acts_late c now = next_expired c.phase now || (is_impatient c now && has_cell AbortRequest c)

-- ---- bytes

-- so many of at most n bytes are moved: never past the end of the PDU at the front, and as many of
-- it as may be
abbrev pub IsMoved : LiveTerminal → List ℕ → ℕ → ℕ → Type 0
IsMoved t wire n m =
    (m ≤ n)
    × ((front : Pdu) (left : List ℕ)
    → IsLeft t wire front left
    → (m ≤ length left) × ((m ≡ n) ⊎ (m ≡ length left)))

abbrev pub CallerHears : Network → ByteWorld → ℕ → Channel → ℕ → ByteWorld → Type 0
CallerHears plan b number k n new =
    (m : ℕ) × (at : Moment) × (ear : Feeding) × (x : Effect) × (t : Desk)
    × IsMoved k.caller k.to_caller n m
    × IsMoment b number (caller_of k) at
    × PlaysBytes (LedgerStep plan (caller_of k)) at k.caller.ear k.caller.core (take m k.to_caller)
    (b.desks (caller_of k)) ear x t
    × (new ≡ with_done b (caller_of k) t number (caller_read k m ear x))

abbrev pub ReceiverHears : Network → ByteWorld → ℕ → Channel → ℕ → ByteWorld → Type 0
ReceiverHears plan b number k n new =
    (m : ℕ) × (at : Moment) × (ear : Feeding) × (x : Effect) × (t : Desk)
    × IsMoved k.receiver k.to_receiver n m
    × IsMoment b number (receiver_of k) at
    × PlaysBytes (LedgerStep plan (receiver_of k)) at k.receiver.ear k.receiver.core
    (take m k.to_receiver) (b.desks (receiver_of k)) ear x t
    × (new ≡ with_done b (receiver_of k) t number (receiver_read k m ear x))

-- an empty wire whose writer is gone tells its reader of the connection's end; where no byte is
-- asked for nothing is done
abbrev pub CallerReads : List ℕ → Network → ByteWorld → ℕ → Channel → ℕ → StepNote → ByteWorld
    → Type 0
CallerReads [] plan b number k n note new = DoesIf (nat_le 1 n && is_over k.receiver.core) b note
    new (CallerMeets plan b number k Ended new)
CallerReads (x ∷ xs) plan b number k n note new =
    DoesIf (nat_le 1 n) b note new (CallerHears plan b number k n new)

abbrev pub ReceiverReads : List ℕ → Network → ByteWorld → ℕ → Channel → ℕ → StepNote → ByteWorld
    → Type 0
ReceiverReads [] plan b number k n note new = DoesIf (nat_le 1 n && is_over k.caller.core) b note
    new (ReceiverMeets plan b number k Ended new)
ReceiverReads (x ∷ xs) plan b number k n note new =
    DoesIf (nat_le 1 n) b note new (ReceiverHears plan b number k n new)

-- nothing is moved to an end that is over
abbrev pub ReadsIf : Bool → ByteWorld → StepNote → ByteWorld → Type 0 → Type 0
ReadsIf true b note new What = Skips b note new
ReadsIf false b note new What = What

abbrev pub Moves : Network → ByteWorld → ℕ → Channel → Side → ℕ → StepNote → ByteWorld → Type 0
Moves plan b number k Requestor n note new =
    ReadsIf (is_over k.caller.core) b note new (CallerReads k.to_caller plan b number k n note new)
Moves plan b number k Acceptor n note new = ReadsIf (is_over k.receiver.core) b note new
    (ReceiverReads k.to_receiver plan b number k n note new)

-- ---- links

-- the channel of a link that was opened just now: two fresh ends, the request on the wire
abbrev pub opened_between : Part → Part → AssociateRq → ℕ → Channel
opened_between from to rq now = record {
  caller = record { core = requesting (Some from) to.name rq now; ear = fresh from.max_pdu };
  receiver = record { core = accepting to now; ear = fresh to.max_pdu };
  to_caller = [];
  to_receiver = spellings (pdu.AssociateRq rq ∷ []);
}

abbrev pub Opens : Network → Certificate → ByteWorld → Text → Text → ByteWorld → Type 0
Opens plan certificate b from to new =
    (caller : Part) × (receiver : Part) × (rq : AssociateRq) × (hop : Hop)
    × IsPartOf plan certificate caller
    × (caller.name ≡ from)
    × IsPartOf plan certificate receiver
    × (receiver.name ≡ to) × IsHopTo caller to hop × IsProposal caller to rq
    × (new
    ≡ record {
      time = b.time;
      desks = b.desks;
      links = map.insert b.links (b.opened + 1) (opened_between caller receiver rq b.time);
      opened = b.opened + 1;
    })

-- the node has no hop there
abbrev pub HasNoHop : Network → Certificate → Text → Text → Type 0
HasNoHop plan certificate from to =
    (caller : Part)
    → IsPartOf plan certificate caller
    → caller.name ≡ from → (hop : Hop) → IsHopTo caller to hop → ⊥

-- both ends have their connections ended, the acceptor's first
abbrev pub Closes : Network → ByteWorld → ℕ → Channel → ByteWorld → Type 0
Closes plan b number k new =
    (early late : Moment) × (x y : Effect) × (t u : Desk) × (early.now ≡ b.time)
    × (late.now ≡ b.time)
    × IsEnded (LedgerStep plan (receiver_of k)) k.receiver.core early (b.desks (receiver_of k)) y u
    × IsEnded (LedgerStep plan (caller_of k)) k.caller.core late
    (with_desk b.desks (receiver_of k) u (caller_of k)) x t
    × (new ≡ with_done (with_call b (receiver_of k) u) (caller_of k) t number (closed k x y))

abbrev pub LinkStep : Option Channel → ByteWorld → StepNote → ByteWorld → (Channel → Type 0)
    → Type 0
LinkStep None b note new What = Skips b note new
LinkStep (Some k) b note new What = What k

-- ---- nodes

abbrev pub note_of : {A : Type 0} → Result A LedgerFault → StepNote
note_of (Ok value) = Done
note_of (Err fault) = Refused fault

abbrev pub NodeStep : Network → Text → ByteWorld → StepNote → ByteWorld → Type 0 → Type 0
NodeStep plan name b note new What =
    (HasNode plan name × What) ⊎ ((HasNode plan name → ⊥) × Skips b note new)

-- ---- staying away

-- Nothing is done where no row is due. The first one that is, is settled as broken. A ledger that
-- can't tell what is due refuses.
abbrev pub SettlesDue : Network → ByteWorld → Text → Text → Result (Option Text) LedgerFault
    → StepNote → ByteWorld → Type 0
SettlesDue plan b from to (Ok None) note new = Skips b note new
SettlesDue plan b from to (Ok (Some uid)) note new =
    (answer : Answer) × (t : Desk)
    × LedgerStep plan from (b.desks from) (Settle uid to Broken b.time) (Settling answer) t
    × (note ≡ note_of answer)
    × (new ≡ with_call b from t)
SettlesDue plan b from to (Err why) note new = (note ≡ Refused why) × (new ≡ b)

-- A node comes to no link to another: its ledger is asked what is due there.
abbrev pub StaysAwayIn : Network → ByteWorld → Text → Text → StepNote → ByteWorld → Type 0
StaysAwayIn plan b from to note new =
    (due : Result (Option Text) LedgerFault)
    × Reads due (Dues (b.desks from).book to b.time)
    × SettlesDue plan b from to due note new

-- ---- forgetting

-- The node asked for the link, and its end there has the uid pending. An end that is off has
-- nothing pending.
abbrev pub PendsAt : ByteWorld → Text → Text → ℕ → Type 0
PendsAt b name uid number = (k : Channel) × (map.get b.links number ≡ Some k) × (caller_of k ≡ name)
    × (pending_of k.caller.core.pending ≡ Some uid)

abbrev pub IsUnderWay : ByteWorld → Text → Text → Type 0
IsUnderWay b name uid = (number : ℕ) × PendsAt b name uid number

-- While a uid is under way from a node it isn't forgotten there. Else its ledger is asked.
abbrev pub ForgetsIn : ByteWorld → Text → Text → StepNote → ByteWorld → Type 0
ForgetsIn b name uid note new = (IsUnderWay b name uid × (note ≡ UnderWay) × (new ≡ b))
    ⊎ ((IsUnderWay b name uid → ⊥) × ((answer : Answer) × (t : Desk)
    × ForgetsAt (b.desks name) uid answer t × (note ≡ note_of answer) × (new ≡ with_call b name t)))

-- ---- a restart

-- the node has an end of the link
abbrev pub is_there : Text → Option Channel → Bool
is_there node None = false
is_there node (Some k) = same_text (caller_of k) node || same_text (receiver_of k) node

-- the links of the node, each once and by rising numbers
abbrev pub AreLinksOf : ByteWorld → Text → List ℕ → Type 0
AreLinksOf b node all =
    IsStrictlySortedBy nat_cmp all
    × ((number : ℕ) → Contains all number ↔ (is_there node (map.get b.links number) ≡ true))

-- The far end of a link of the node has its connection ended: the requestor of a link at which the
-- node is called, or else its acceptor.
abbrev pub FarEnds : Network → ℕ → Bool → Channel → (Text → Desk) → (Text → Desk) → Type 0
FarEnds plan now true k desks new =
    (at : Moment) × (x : Effect) × (t : Desk) × (at.now ≡ now)
    × IsEnded (LedgerStep plan (caller_of k)) k.caller.core at (desks (caller_of k)) x t
    × (new ≡ with_desk desks (caller_of k) t)
FarEnds plan now false k desks new =
    (at : Moment) × (y : Effect) × (u : Desk) × (at.now ≡ now)
    × IsEnded (LedgerStep plan (receiver_of k)) k.receiver.core at (desks (receiver_of k)) y u
    × (new ≡ with_desk desks (receiver_of k) u)

abbrev pub FarEndsOf : Network → ByteWorld → Text → Option Channel → (Text → Desk) → (Text → Desk)
    → Type 0
FarEndsOf plan b node None desks new = new ≡ desks
FarEndsOf plan b node (Some k) desks new =
    FarEnds plan b.time (same_text (receiver_of k) node) k desks new

-- one link after the other
abbrev pub AllFarEnd : Network → ByteWorld → Text → List ℕ → (Text → Desk) → (Text → Desk) → Type 0
AllFarEnd plan b node [] desks new = new ≡ desks
AllFarEnd plan b node (number ∷ more) desks new =
    (mid : Text → Desk)
    × FarEndsOf plan b node (map.get b.links number) desks mid
    × AllFarEnd plan b node more mid new

-- its links are gone with all that was on their wires; its book stays
abbrev pub Restarts : Network → ByteWorld → Text → ByteWorld → Type 0
Restarts plan b node new =
    (numbers : List ℕ) × (desks : Text → Desk)
    × AreLinksOf b node numbers
    × AllFarEnd plan b node numbers b.desks desks
    × (new
    ≡ record {
      time = b.time;
      desks = desks;
      links = map.retain_keys b.links (λ number. not (is_there node (map.get b.links number)));
      opened = b.opened;
    })

-- ---- each step

abbrev pub Steps : Network → Certificate → ByteWorld → WorldStep → StepNote → ByteWorld → Type 0
Steps plan certificate b (Submit node item) note new = NodeStep plan node b note new
    ((reply : Reply) × (t : Desk)
    × LedgerStep plan node (b.desks node) (Arrive local item) (Arrival reply) t
    × (note ≡ note_of reply)
    × (new ≡ with_call b node t))
Steps plan certificate b (Open from to) note new =
    ((note ≡ Done) × Opens plan certificate b from to new)
    ⊎ (HasNoHop plan certificate from to × Skips b note new)
Steps plan certificate b (Away from to) note new =
    NodeStep plan from b note new (StaysAwayIn plan b from to note new)
Steps plan certificate b (Push link) note new = LinkStep (map.get b.links link) b note new
    (λ k. PushesIf (is_free k.caller.core) plan b link k note new)
Steps plan certificate b (Move link reader n) note new =
    LinkStep (map.get b.links link) b note new (λ k. Moves plan b link k reader n note new)
Steps plan certificate b (Abort link side) note new = LinkStep (map.get b.links link) b note new
    (λ k. DoesIf (has_cell AbortRequest (core_at k side)) b note new
    (Meets plan b link k side AbortAsked new))
Steps plan certificate b (Release link) note new = LinkStep (map.get b.links link) b note new
    (λ k. DoesIf (is_idle k.caller.core && has_cell ReleaseRequest k.caller.core) b note new
    (CallerMeets plan b link k ReleaseAsked new))
Steps plan certificate b (Close link) note new = LinkStep (map.get b.links link) b note new
    (λ k. DoesIf (not (is_over k.caller.core && is_over k.receiver.core)) b note new
    (Closes plan b link k new))
Steps plan certificate b (Late link side) note new = LinkStep (map.get b.links link) b note new
    (λ k.
    DoesIf (acts_late (core_at k side) b.time) b note new (Meets plan b link k side LateMark new))
Steps plan certificate b (Restart node) note new =
    NodeStep plan node b note new ((note ≡ Done) × Restarts plan b node new)
Steps plan certificate b (Requeue node uid dest) note new = NodeStep plan node b note new
    ((answer : Answer) × (t : Desk)
    × RequeuesAt (b.desks node) uid dest answer t
    × (note ≡ note_of answer)
    × (new ≡ with_call b node t))
Steps plan certificate b (Drop node uid dest) note new = NodeStep plan node b note new
    ((answer : Answer) × (t : Desk)
    × GivesUpAt (b.desks node) uid dest b.time answer t
    × (note ≡ note_of answer)
    × (new ≡ with_call b node t))
Steps plan certificate b (Forget node uid) note new =
    NodeStep plan node b note new (ForgetsIn b node uid note new)
Steps plan certificate b (Tick ms) note new =
    (note ≡ Done)
    × (new
    ≡ record {
      time = min (b.time + ms) (2 ^ 62);
      desks = b.desks;
      links = b.links;
      opened = b.opened;
    })
Steps plan certificate b (Refuse node) note new = NodeStep plan node b note new
    ((note ≡ Done) × (new ≡ with_call b node (desk (b.desks node).book true)))
