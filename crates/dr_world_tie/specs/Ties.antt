-- What a Move of bytes does in the message world.
use Rattle.std.specs.Prelude.{◌<◌, ◌^◌, if◌then◌else◌, ◌||◌, ◌+◌, ◌≡◌, ◌≢◌, ◌⊎◌, ℕ, Bool, true}
use Rattle.std.specs.Prelude.{false, List, [], ◌∷◌, ◌++◌, take, drop, Option, Some, None}
use Rattle.dr_base.specs.Texts.{Text}
use Rattle.dr_plan_model.specs.Networks.{Network}
use Rattle.dr_plan_sound.specs.declared.certificate.Certificate.{Certificate}
use Rattle.dr_site.specs.Sites.{IsCertified}
use Rattle.dr_pdu.specs.declared.pdu.Pdu.{Pdu}
use Rattle.dr_pdu.specs.declared.pdu.Pdu.TheVariants as pdu
use Rattle.dr_nego.specs.Agreeing.{AssociateRq}
use Rattle.dr_pdu.specs.Feeding.{Feeding, fresh}
use Rattle.dr_pdu.specs.Written.{Fits, MeetsLimit, written}
use Rattle.dr_session.specs.declared.ends.Core.{Core}
use Rattle.dr_session.specs.declared.ends.Effect.{Effect}
use Rattle.dr_session.specs.declared.ends.Moment.{Moment}
use Rattle.dr_nego.specs.Agreeing.{context_for}
use Rattle.dr_session.specs.Reactions.{is_impatient, effect, gives_in}
use Rattle.dr_session.specs.Messages.{command_pdus, data_pdus}
use Rattle.dr_nego.specs.Fragments.{spellings}
use Rattle.dr_dimse.specs.declared.message.Body.TheVariants.{Whole}
use Rattle.std.specs.Prelude.{map as map_over, length, ◌≤◌}
use Rattle.dr_pdu.specs.declared.pdu.Pdv.{Pdv}
use Rattle.dr_dimse.specs.declared.message.Awaited.{Awaited}
use Rattle.dr_dimse.specs.declared.command.Command.{Command}
use Rattle.dr_dimse.specs.Commands.{IsCommand, announces}
use Rattle.dr_dimse.specs.Written as commands
use Rattle.dr_dimse.specs.Taking.{IsAwaited, Idle}
use Rattle.dr_session.specs.Desks.{DeskCall, DeskAnswer}
use Rattle.dr_ledger.specs.Replies.{IsNext, Reply}
use Rattle.dr_session.specs.declared.ends.Input.{Input}
use Rattle.dr_session.specs.declared.ends.Input.TheVariants.{Ended, Late, AbortAsked, ReleaseAsked}
use Rattle.dr_session.specs.declared.ends.Input.TheVariants.{PushAsked}
use Rattle.dr_session.specs.Plays.{At, Reacts, at_moment, PlaysBytes}
use Rattle.std.specs.List.{AllByRecursion}
use Rattle.std.specs.FinMap as map
use Rattle.std.specs.FinSet as set
use Rattle.dr_world_model.specs.Worlds.{World, Link, Asking, Answering, Rejecting, Open, Storing}
use Rattle.dr_world_model.specs.Worlds.{Replying, same_text}
use Rattle.dr_world_model.specs.Steps.{IsLink, IsHop, new_link, others, callers_of}
use Rattle.dr_ledger.specs.declared.item.Instance.{Instance}
use Rattle.dr_ledger.specs.declared.content.Job.{Job}
use Rattle.dr_ledger.specs.declared.content.NextRow.TheVariants.{Whole}
use Rattle.dr_base.specs.Syntaxes.{syntax_uid}
use Rattle.dr_nego.specs.declared.agreed.Agreed.{Agreed}
use Rattle.dr_session.specs.Ledgers.{Hands}
use Rattle.dr_session.specs.Turns.{Turns}
use Rattle.dr_ulstate.specs.declared.table.State.TheVariants.{Sta6}
use Rattle.dr_ulstate.specs.Standing.{moved}
use Rattle.dr_ulstate.specs.Phases.{in_its_phase, next_expired}
use Rattle.dr_world_model.specs.Worlds.{Contexts}
use Rattle.dr_world_model.specs.Calls.{Answer}
use Rattle.dr_world_model.specs.Events.{Event, Step, Ask, AgreeReceiver, AgreeCaller, Give, Receive}
use Rattle.dr_world_model.specs.Events.{Answered, BreakCaller, BreakReceiver, PassOver, Restart}
use Rattle.dr_world_tie.specs.Desks.{Desk, LedgerStep}
use Rattle.dr_world_tie.specs.Channels.{IsAt, alone, message, Gets, LiveTerminal, Channel}
use Rattle.dr_world_tie.specs.Channels.{ShowsLink}
use Rattle.dr_world_tie.specs.Channels.{bytes_of, IsControl, IsOff, IsSideOf, IsAsking, IsReceiver}

-- the desk of a node of the world
abbrev pub IsDeskOf : World → Text → Desk → Type 0
IsDeskOf w name s = (s.book ≡ w.books name) × (s.armed ≡ set.contains w.armed name)

-- the channel after something was done at an end, which keeps this, with this left on its wire
abbrev pub receiver_as : Channel → List ℕ → Feeding → Effect → Channel
receiver_as k wire ear x = record {
  caller = k.caller;
  receiver = record { core = x.core; ear = ear };
  to_caller = k.to_caller ++ bytes_of x.acts;
  to_receiver = wire;
}

abbrev pub caller_as : Channel → List ℕ → Feeding → Effect → Channel
caller_as k wire ear x = record {
  caller = record { core = x.core; ear = ear };
  receiver = k.receiver;
  to_caller = wire;
  to_receiver = k.to_receiver ++ bytes_of x.acts;
}

-- after the end read the first bytes of its wire
abbrev pub receiver_read : Channel → ℕ → Feeding → Effect → Channel
receiver_read k n ear x = receiver_as k (drop n k.to_receiver) ear x

abbrev pub caller_read : Channel → ℕ → Feeding → Effect → Channel
caller_read k n ear x = caller_as k (drop n k.to_caller) ear x

-- after an input that came from elsewhere
abbrev pub receiver_did : Channel → Effect → Channel
receiver_did k x = receiver_as k k.to_receiver k.receiver.ear x

abbrev pub caller_did : Channel → Effect → Channel
caller_did k x = caller_as k k.to_caller k.caller.ear x

-- the PDU whose bytes come next
abbrev pub IsFirstPdu : LiveTerminal → List ℕ → Pdu → Type 0
IsFirstPdu t wire p =
    (more : List Pdu)
    × (t.ear.kept ++ wire ≡ spellings (p ∷ more))
    × Fits p × MeetsLimit t.ear.limit p

-- some bytes of the front PDU came, and not its last
abbrev pub IsWithin : List ℕ → Pdu → Type 0
IsWithin text p = (back : List ℕ) × (written p ≡ text ++ back) × (back ≢ [])

-- Some first bytes of the wire, which end no PDU: nothing is done or called, and the channel is the
-- same link.
abbrev pub ReceiverHearsNothing : {S : Type 0} → (S → DeskCall → DeskAnswer → S → Type 0) → Type 0
ReceiverHearsNothing {S} step =
    (plan : Network) (certificate : Certificate) (link : Link) (k : Channel)
    → ShowsLink plan certificate k link
    → link.receiver_connected ≡ true
    → (moment : Moment) (n : ℕ) (front : Pdu) (new : Feeding) (x : Effect) (s u : S)
    → IsFirstPdu k.receiver k.to_receiver front
    → IsWithin (k.receiver.ear.kept ++ take n k.to_receiver) front
    → PlaysBytes step moment k.receiver.ear k.receiver.core (take n k.to_receiver) s new x u
    → (u ≡ s)
    × (x ≡ effect [] k.receiver.core)
    × ShowsLink plan certificate (receiver_read k n new x) link

abbrev pub CallerHearsNothing : {S : Type 0} → (S → DeskCall → DeskAnswer → S → Type 0) → Type 0
CallerHearsNothing {S} step =
    (plan : Network) (certificate : Certificate) (link : Link) (k : Channel)
    → ShowsLink plan certificate k link
    → link.caller_connected ≡ true
    → (moment : Moment) (n : ℕ) (front : Pdu) (new : Feeding) (x : Effect) (s u : S)
    → IsFirstPdu k.caller k.to_caller front
    → IsWithin (k.caller.ear.kept ++ take n k.to_caller) front
    → PlaysBytes step moment k.caller.ear k.caller.core (take n k.to_caller) s new x u
    → (u ≡ s)
    × (x ≡ effect [] k.caller.core)
    × ShowsLink plan certificate (caller_read k n new x) link

-- all else is as it was
pub record OnlyHere (w v : World) (number : ℕ) (name : Text) : Type 0 where
  pub books : (other : Text) → same_text other name ≡ false → v.books other ≡ w.books other
  pub links : (other : ℕ) → other ≢ number → map.get v.links other ≡ map.get w.links other
  pub armed : (other : Text)
      → same_text other name ≡ false
      → set.contains v.armed other ≡ set.contains w.armed other
  pub rest : (v.time ≡ w.time) × (v.stood ≡ w.stood) × (v.opened ≡ w.opened)

-- the event happens at this link and this node, and the channel is the link again
pub record Happens (plan : Network) (certificate : Certificate) (w : World) (number : ℕ)
    (event : Event) (name : Text) (t : Desk) (k : Channel) : Type 0 where
  pub after : World
  pub link : Link
  pub step : Step plan w event after
  pub here : IsLink after number link
  pub desk : IsDeskOf after name t
  pub only : OnlyHere w after number name
  pub shows : ShowsLink plan certificate k link

-- ---- events

-- A Move that ends the request.
abbrev pub AgreesAtReceiver : Type 0
AgreesAtReceiver =
    (plan : Network) (certificate : Certificate)
    → IsCertified plan certificate
    → (w : World) (number : ℕ) (link : Link) (k : Channel) (s : Desk)
    → IsLink w number link
    → IsDeskOf w link.receiver s
    → ShowsLink plan certificate k link
    → link.receiver_connected ≡ true
    → link.stage ≡ Asking → (moment : Moment) → moment.now ≡ w.time
    → moment.others ≡ others w number link.receiver
    → (n : ℕ) (front : Pdu) (new : Feeding) (x : Effect) (t : Desk)
    → IsFirstPdu k.receiver k.to_receiver front
    → k.receiver.ear.kept ++ take n k.to_receiver ≡ written front
    → PlaysBytes (LedgerStep plan link.receiver) moment k.receiver.ear k.receiver.core
    (take n k.to_receiver) s new x t
    → (answer : Option Contexts)
    × Happens plan certificate w number (AgreeReceiver number answer) link.receiver t
    (receiver_read k n new x)

-- what is asked of an end, or happens to it, that makes it leave
abbrev pub IsLeaving : Input → Type 0
IsLeaving i = (i ≡ Ended) ⊎ (i ≡ AbortAsked)

-- The link's caller, on, has its connection ended or is told to abort: it leaves, and settles what
-- it had pending.
abbrev pub CallerLeaves : Type 0
CallerLeaves =
    (plan : Network) (certificate : Certificate) (w : World) (number : ℕ) (link : Link)
    (k : Channel) (s : Desk)
    → IsLink w number link → IsDeskOf w link.caller s
    → ShowsLink plan certificate k link
    → link.caller_connected ≡ true
    → (moment : Moment) → moment.now ≡ w.time → (i : Input) → IsLeaving i → (x : Effect) (t : Desk)
    → Reacts (LedgerStep plan link.caller) k.caller.core (at_moment moment i) s x t
    → (answer : Option Answer)
    × Happens plan certificate w number (BreakCaller number answer) link.caller t (caller_did k x)

-- The same of its receiver; one that heard no request yet can't abort.
abbrev pub ReceiverLeaves : Type 0
ReceiverLeaves =
    (plan : Network) (certificate : Certificate) (w : World) (number : ℕ) (link : Link)
    (k : Channel) (s : Desk)
    → IsLink w number link
    → IsDeskOf w link.receiver s
    → ShowsLink plan certificate k link
    → link.receiver_connected ≡ true
    → (moment : Moment) → moment.now ≡ w.time → (i : Input) → IsLeaving i
    → (i ≡ AbortAsked → link.stage ≢ Asking)
    → (x : Effect) (t : Desk)
    → Reacts (LedgerStep plan link.receiver) k.receiver.core (at_moment moment i) s x t
    → Happens plan certificate w number (BreakReceiver number) link.receiver t (receiver_did k x)

-- A Move that ends a PDU that the writer wrote as it left: the reader leaves.
abbrev pub ReceiverHearsControl : Type 0
ReceiverHearsControl =
    (plan : Network) (certificate : Certificate) (w : World) (number : ℕ) (link : Link)
    (k : Channel) (s : Desk)
    → IsLink w number link
    → IsDeskOf w link.receiver s
    → ShowsLink plan certificate k link
    → link.receiver_connected ≡ true
    → (moment : Moment) → moment.now ≡ w.time
    → (n : ℕ) (front : Pdu) (new : Feeding) (x : Effect) (t : Desk)
    → IsControl front
    → IsFirstPdu k.receiver k.to_receiver front
    → k.receiver.ear.kept ++ take n k.to_receiver ≡ written front
    → PlaysBytes (LedgerStep plan link.receiver) moment k.receiver.ear k.receiver.core
    (take n k.to_receiver) s new x t
    → Happens plan certificate w number (BreakReceiver number) link.receiver t
    (receiver_read k n new x)

abbrev pub CallerHearsControl : Type 0
CallerHearsControl =
    (plan : Network) (certificate : Certificate) (w : World) (number : ℕ) (link : Link)
    (k : Channel) (s : Desk)
    → IsLink w number link → IsDeskOf w link.caller s
    → ShowsLink plan certificate k link
    → link.caller_connected ≡ true
    → (moment : Moment) → moment.now ≡ w.time
    → (n : ℕ) (front : Pdu) (new : Feeding) (x : Effect) (t : Desk)
    → IsControl front
    → IsFirstPdu k.caller k.to_caller front
    → k.caller.ear.kept ++ take n k.to_caller ≡ written front
    → PlaysBytes (LedgerStep plan link.caller) moment k.caller.ear k.caller.core
    (take n k.to_caller) s new x t
    → (answer : Option Answer)
    × Happens plan certificate w number (BreakCaller number answer) link.caller t
    (caller_read k n new x)

-- A Move that ends an acceptance: the link is open.
abbrev pub HearsAcceptance : Type 0
HearsAcceptance =
    (plan : Network) (certificate : Certificate) (w : World) (number : ℕ) (link : Link)
    (k : Channel) (s : Desk)
    → IsLink w number link → IsDeskOf w link.caller s
    → ShowsLink plan certificate k link
    → link.caller_connected ≡ true
    → (accepted : Contexts)
    → link.stage ≡ Answering accepted
    → (moment : Moment) → moment.now ≡ w.time
    → (n : ℕ) (front : Pdu) (new : Feeding) (x : Effect) (t : Desk)
    → IsFirstPdu k.caller k.to_caller front
    → k.caller.ear.kept ++ take n k.to_caller ≡ written front
    → PlaysBytes (LedgerStep plan link.caller) moment k.caller.ear k.caller.core
    (take n k.to_caller) s new x t
    → Happens plan certificate w number (AgreeCaller number None) link.caller t
    (caller_read k n new x)

-- A Move that ends a rejection: the first due row is settled as broken, and the caller is off;
-- where the store fails at once it leaves.
abbrev pub HearsRejection : Type 0
HearsRejection =
    (plan : Network) (certificate : Certificate) (w : World) (number : ℕ) (link : Link)
    (k : Channel) (s : Desk)
    → IsLink w number link → IsDeskOf w link.caller s
    → ShowsLink plan certificate k link
    → link.caller_connected ≡ true
    → link.stage ≡ Rejecting → (moment : Moment) → moment.now ≡ w.time
    → (n : ℕ) (front : Pdu) (new : Feeding) (x : Effect) (t : Desk)
    → IsFirstPdu k.caller k.to_caller front
    → k.caller.ear.kept ++ take n k.to_caller ≡ written front
    → PlaysBytes (LedgerStep plan link.caller) moment k.caller.ear k.caller.core
    (take n k.to_caller) s new x t
    → ((answer : Option Answer)
    × Happens plan certificate w number (AgreeCaller number answer) link.caller t
    (caller_read k n new x))
    ⊎ Happens plan certificate w number (BreakCaller number None) link.caller t
    (caller_read k n new x)

-- the PDU is one value of data
abbrev pub IsData : Pdu → Type 0
IsData p = (value : Pdv) × (p ≡ alone value)

-- A Move that ends a PDU of a store: its last is the arrival, another is no event.
abbrev pub HearsStore : Type 0
HearsStore =
    (plan : Network) (certificate : Certificate)
    → IsCertified plan certificate
    → (w : World) (number : ℕ) (link : Link) (k : Channel) (s : Desk)
    → IsLink w number link
    → IsDeskOf w link.receiver s
    → ShowsLink plan certificate k link
    → link.receiver_connected ≡ true
    → (accepted : Contexts) (item : Instance)
    → link.stage ≡ Storing accepted item
    → (moment : Moment) → moment.now ≡ w.time
    → (n : ℕ) (front : Pdu) (new : Feeding) (x : Effect) (t : Desk)
    → IsFirstPdu k.receiver k.to_receiver front
    → k.receiver.ear.kept ++ take n k.to_receiver ≡ written front
    → PlaysBytes (LedgerStep plan link.receiver) moment k.receiver.ear k.receiver.core
    (take n k.to_receiver) s new x t
    → ((reply : Reply)
    × Happens plan certificate w number (Receive number reply) link.receiver t
    (receiver_read k n new x))
    ⊎ ((t ≡ s) × ShowsLink plan certificate (receiver_read k n new x) link × IsData front)

-- A Move that ends a PDU of a response.
abbrev pub HearsReply : Type 0
HearsReply =
    (plan : Network) (certificate : Certificate)
    → IsCertified plan certificate
    → (w : World) (number : ℕ) (link : Link) (k : Channel) (s : Desk)
    → IsLink w number link → IsDeskOf w link.caller s
    → ShowsLink plan certificate k link
    → link.caller_connected ≡ true
    → (accepted : Contexts) (item : Instance) (status : ℕ)
    → link.stage ≡ Replying accepted item status
    → (moment : Moment) → moment.now ≡ w.time
    → (n : ℕ) (front : Pdu) (new : Feeding) (x : Effect) (t : Desk)
    → IsFirstPdu k.caller k.to_caller front
    → k.caller.ear.kept ++ take n k.to_caller ≡ written front
    → PlaysBytes (LedgerStep plan link.caller) moment k.caller.ear k.caller.core
    (take n k.to_caller) s new x t
    → ((answer : Answer)
    × Happens plan certificate w number (Answered number answer) link.caller t
    (caller_read k n new x))
    ⊎ ((t ≡ s) × ShowsLink plan certificate (caller_read k n new x) link × IsData front)

-- The part of a push where a ledger hands out a job and the caller has a context for it.
abbrev pub GivesStore : Type 0
GivesStore =
    (plan : Network) (certificate : Certificate)
    → IsCertified plan certificate
    → (w : World) (number : ℕ) (link : Link) (k : Channel) (s : Desk)
    → IsLink w number link → IsDeskOf w link.caller s
    → ShowsLink plan certificate k link
    → link.caller_connected ≡ true
    → (accepted : Contexts)
    → link.stage ≡ Open accepted
    → (moment : Moment) → moment.now ≡ w.time → (job : Job)
    → Hands s.book link.receiver moment.now (Some (Whole job))
    → (agreed : Agreed)
    → k.caller.core.agreed ≡ Some agreed
    → (context : ℕ)
    → context_for agreed job.key.class (syntax_uid job.key.syntax) ≡ Some context
    → (at : IsAt k.caller.core true Sta6) (x : Effect) (t : Desk)
    → Turns (LedgerStep plan link.caller)
    (gives_in (Some context) agreed moment job
    (record k.caller.core { phase = in_its_phase (moved at.0 Sta6 moment.now) })) s x t
    → ∥ Happens plan certificate w number (Give number None) link.caller t (caller_did k x) ∥₁

-- A push: the caller, open and with nothing pending, gives the first row that is due, settles that
-- it has no context, leaves as its store failed, passes it over as one that can't be read, or finds
-- none.
abbrev pub PushGives : Type 0
PushGives =
    (plan : Network) (certificate : Certificate)
    → IsCertified plan certificate
    → (w : World) (number : ℕ) (link : Link) (k : Channel) (s : Desk)
    → IsLink w number link → IsDeskOf w link.caller s
    → ShowsLink plan certificate k link
    → link.caller_connected ≡ true
    → (accepted : Contexts)
    → link.stage ≡ Open accepted
    → (moment : Moment) → moment.now ≡ w.time → (x : Effect) (t : Desk)
    → Reacts (LedgerStep plan link.caller) k.caller.core (at_moment moment PushAsked) s x t
    → ∥ ((answer : Option Answer)
    × Happens plan certificate w number (Give number answer) link.caller t (caller_did k x)) ∥₁
    ⊎ (Happens plan certificate w number (BreakCaller number None) link.caller t (caller_did k x)
    ⊎ (((answer : Answer)
    × Happens plan certificate w number (PassOver number answer) link.caller t (caller_did k x))
    ⊎ ((t ≡ s)
    × ShowsLink plan certificate (caller_did k x) link
    × ((item : Instance) → IsNext (w.books link.caller) link.receiver w.time item → ⊥))))

-- a late mark acts: the timer has expired, or a requestor has awaited an answer for too long
abbrev pub is_late : Core → ℕ → Bool
is_late c now = next_expired c.phase now || is_impatient c now

-- A late mark: where it acts the end leaves, else nothing happens.
abbrev pub LateAtCaller : Type 0
LateAtCaller =
    (plan : Network) (certificate : Certificate) (w : World) (number : ℕ) (link : Link)
    (k : Channel) (s : Desk)
    → IsLink w number link → IsDeskOf w link.caller s
    → ShowsLink plan certificate k link
    → link.caller_connected ≡ true
    → (moment : Moment) → moment.now ≡ w.time → (x : Effect) (t : Desk)
    → Reacts (LedgerStep plan link.caller) k.caller.core (at_moment moment Late) s x t
    → ((answer : Option Answer)
    × Happens plan certificate w number (BreakCaller number answer) link.caller t (caller_did k x))
    ⊎ ((t ≡ s) × (x ≡ effect [] k.caller.core) × (is_late k.caller.core moment.now ≡ false))

-- A late mark at the receiver: where no request came in time it leaves, else nothing happens.
abbrev pub LateAtReceiver : Type 0
LateAtReceiver =
    (plan : Network) (certificate : Certificate) (w : World) (number : ℕ) (link : Link)
    (k : Channel) (s : Desk)
    → IsLink w number link
    → IsDeskOf w link.receiver s
    → ShowsLink plan certificate k link
    → link.receiver_connected ≡ true
    → (moment : Moment) → moment.now ≡ w.time → (x : Effect) (t : Desk)
    → Reacts (LedgerStep plan link.receiver) k.receiver.core (at_moment moment Late) s x t
    → Happens plan certificate w number (BreakReceiver number) link.receiver t (receiver_did k x)
    ⊎ ((t ≡ s) × (x ≡ effect [] k.receiver.core) × (is_late k.receiver.core moment.now ≡ false))

-- what an end that is off does: it stays off, of the same node and with the same peer, and writes
-- at most what one writes that leaves
abbrev pub StaysOff : Core → Bool → Effect → Type 0
StaysOff c requestor x =
    IsOff x.core requestor × (x.core.site ≡ c.site) × (x.core.peer ≡ c.peer)
    × (x.core.proposed ≡ c.proposed)
    × ((pdus : List Pdu)
    × (bytes_of x.acts ≡ spellings pdus)
    × AllByRecursion IsControl pdus
    × ((limit : ℕ) → AllByRecursion (λ p. Fits p × MeetsLimit limit p) pdus))

-- An end that is off: whatever it is told, it calls nothing and stays off.
abbrev pub OffStaysOff : {S : Type 0} → (S → DeskCall → DeskAnswer → S → Type 0) → Type 0
OffStaysOff {S} step =
    (c : Core) (requestor : Bool)
    → IsOff c requestor
    → (i : At) (s u : S) (x : Effect)
    → Reacts step c i s x u
    → (u ≡ s) × StaysOff c requestor x

-- So what it hears and is asked is no event: the channel is the same link.
abbrev pub OffCallerIsNoEvent : {S : Type 0} → (S → DeskCall → DeskAnswer → S → Type 0) → Type 0
OffCallerIsNoEvent {S} step =
    (plan : Network) (certificate : Certificate) (link : Link) (k : Channel)
    → ShowsLink plan certificate k link
    → link.caller_connected ≡ false
    → (s u : S) (x : Effect)
    → ((i : At)
    → Reacts step k.caller.core i s x u
    → (u ≡ s) × ShowsLink plan certificate (caller_did k x) link)
    × ((moment : Moment) (n : ℕ) (new : Feeding)
    → PlaysBytes step moment k.caller.ear k.caller.core (take n k.to_caller) s new x u
    → (u ≡ s) × ShowsLink plan certificate (caller_read k n new x) link)

abbrev pub OffReceiverIsNoEvent : {S : Type 0} → (S → DeskCall → DeskAnswer → S → Type 0) → Type 0
OffReceiverIsNoEvent {S} step =
    (plan : Network) (certificate : Certificate) (link : Link) (k : Channel)
    → ShowsLink plan certificate k link
    → link.receiver_connected ≡ false
    → (s u : S) (x : Effect)
    → ((i : At)
    → Reacts step k.receiver.core i s x u
    → (u ≡ s) × ShowsLink plan certificate (receiver_did k x) link)
    × ((moment : Moment) (n : ℕ) (new : Feeding)
    → PlaysBytes step moment k.receiver.ear k.receiver.core (take n k.to_receiver) s new x u
    → (u ≡ s) × ShowsLink plan certificate (receiver_read k n new x) link)

-- ---- a restart

-- the desk of one node in place of what it had
abbrev pub with_desk : (Text → Desk) → Text → Desk → Text → Desk
with_desk desks name desk other = if same_text other name then desk else desks other

-- The far callers of a node have their connections ended, one after the other; each leaves its core
-- and its desk.
abbrev pub EndAll : Network → (ℕ → Link) → (ℕ → Channel) → Moment → List ℕ → (Text → Desk)
    → (Text → Desk) → Type 0
EndAll plan links channels moment [] desks new = new ≡ desks
EndAll plan links channels moment (number ∷ more) desks new =
    (x : Effect) × (t : Desk)
    × Reacts (LedgerStep plan (links number).caller) (channels number).caller.core
    (at_moment moment Ended) (desks (links number).caller) x t
    × EndAll plan links channels moment more (with_desk desks (links number).caller t) new

-- each is a link of the world, its caller on, and its channel shows it; no two are the same
abbrev pub AreCallers : Network → Certificate → World → (ℕ → Link) → (ℕ → Channel) → List ℕ → Type 0
AreCallers plan certificate w links channels [] = Unit {0}
AreCallers plan certificate w links channels (number ∷ more) =
    IsLink w number (links number)
    × ((links number).caller_connected ≡ true)
    × ShowsLink plan certificate (channels number) (links number)
    × AllByRecursion (λ other. other ≢ number) more
    × AreCallers plan certificate w links channels more

-- A restart: the callers of the node leave, one after the other, each settling what it had pending
-- at its own desk.
abbrev pub RestartLeaves : Type 0
RestartLeaves =
    (plan : Network) (certificate : Certificate) (w : World) (node : Text) (links : ℕ → Link)
    (channels : ℕ → Channel) (desks new : Text → Desk)
    → ((name : Text) → IsDeskOf w name (desks name))
    → AreCallers plan certificate w links channels (callers_of w node)
    → (moment : Moment) → moment.now ≡ w.time
    → EndAll plan links channels moment (callers_of w node) desks new
    → (v : World)
    × (answers : List (Option Answer))
    × Step plan w (Restart node answers) v
    × ((name : Text) → IsDeskOf v name (new name))

-- ---- opening

-- two fresh ends, the request on the wire
pub record IsOpened (plan : Network) (certificate : Certificate) (caller receiver : Text)
    (k : Channel) : Type 0 where
  pub from : IsSideOf plan certificate caller k.caller.core k.caller.ear
  pub to : IsSideOf plan certificate receiver k.receiver.core k.receiver.ear
  pub peer : k.caller.core.peer ≡ receiver
  pub asking : IsAsking k.caller.core receiver
  pub last : k.caller.core.last < 2 ^ 16
  pub listening : IsReceiver true Asking caller k.receiver.core
  pub ears : (k.caller.ear ≡ fresh k.caller.ear.limit)
      × (k.receiver.ear ≡ fresh k.receiver.ear.limit)
  pub rq : AssociateRq
  pub proposed : k.caller.core.proposed ≡ Some rq
  pub fits : Fits (pdu.AssociateRq rq)
  pub wires : (k.to_caller ≡ []) × (k.to_receiver ≡ spellings (pdu.AssociateRq rq ∷ []))

-- Opening a link over a hop is asking for it.
abbrev pub OpensAreAsks : Type 0
OpensAreAsks =
    (plan : Network) (certificate : Certificate) (w : World) (caller receiver : Text) (k : Channel)
    → IsHop plan caller receiver
    → IsOpened plan certificate caller receiver k
    → (v : World)
    × Step plan w (Ask caller receiver) v
    × IsLink v (w.opened + 1) (new_link caller receiver)
    × ShowsLink plan certificate k (new_link caller receiver)

-- ---- fragments

abbrev pub joined_pieces : List (List ℕ) → List ℕ
joined_pieces [] = []
joined_pieces (piece ∷ more) = piece ++ joined_pieces more

-- The fragments of a command that announces no data make its message, whatever the limit.
abbrev pub PiecesMakeCommands : Type 0
PiecesMakeCommands =
    (awaited : Awaited) (limit id : ℕ) (c : Command)
    → IsCommand (commands.written c) c
    → length (commands.written c) ≤ 16384
    → IsAwaited awaited c → announces c ≡ false
    → (values : List Pdv)
    × (command_pdus limit id c ≡ map_over alone values)
    × AllByRecursion (λ (p : Pdv). p.id ≡ id) values
    × Gets awaited Idle values (message id c None)

-- The fragments of a command and of its data set, of at most 64 MiB, make their message.
abbrev pub PiecesMakeStores : Type 0
PiecesMakeStores =
    (awaited : Awaited) (limit id : ℕ) (c : Command) (body : List ℕ)
    → IsCommand (commands.written c) c
    → length (commands.written c) ≤ 16384
    → IsAwaited awaited c → announces c ≡ true → length body ≤ 67108864
    → (values : List Pdv)
    × (command_pdus limit id c ++ data_pdus limit id body ≡ map_over alone values)
    × AllByRecursion (λ (p : Pdv). p.id ≡ id) values
    × Gets awaited Idle values (message id c (Some (Whole body)))

-- The caller of an open link asks for the release: it reads nothing more.
abbrev pub ReleaseLeaves : Type 0
ReleaseLeaves =
    (plan : Network) (certificate : Certificate) (w : World) (number : ℕ) (link : Link)
    (k : Channel) (s : Desk)
    → IsLink w number link → IsDeskOf w link.caller s
    → ShowsLink plan certificate k link
    → link.caller_connected ≡ true
    → (accepted : Contexts)
    → link.stage ≡ Open accepted
    → (moment : Moment) → moment.now ≡ w.time → (x : Effect) (t : Desk)
    → Reacts (LedgerStep plan link.caller) k.caller.core (at_moment moment ReleaseAsked) s x t
    → Happens plan certificate w number (BreakCaller number None) link.caller t (caller_did k x)
