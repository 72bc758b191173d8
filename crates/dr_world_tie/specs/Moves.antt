-- A Move of bytes, whatever is under way: what its world's relation gives is all that is asked.
use Rattle.std.specs.Prelude.{◌≡◌, ◌≢◌, ◌⊎◌, ℕ, ◌<◌, ◌≤◌, true, List, [], ◌++◌, take, length}
use Rattle.dr_plan_model.specs.Networks.{Network}
use Rattle.dr_plan_sound.specs.declared.certificate.Certificate.{Certificate}
use Rattle.dr_site.specs.Sites.{IsCertified}
use Rattle.dr_pdu.specs.declared.pdu.Pdu.{Pdu}
use Rattle.dr_pdu.specs.Feeding.{Feeding}
use Rattle.dr_pdu.specs.Written.{written}
use Rattle.dr_session.specs.declared.ends.Effect.{Effect}
use Rattle.dr_session.specs.declared.ends.Moment.{Moment}
use Rattle.dr_session.specs.Plays.{PlaysBytes}
use Rattle.dr_world_model.specs.Worlds.{World, Link}
use Rattle.dr_world_model.specs.Steps.{IsLink, others}
use Rattle.dr_world_model.specs.Events.{Event, AgreeReceiver, AgreeCaller, Receive, Answered}
use Rattle.dr_world_model.specs.Events.{BreakCaller, BreakReceiver}
use Rattle.dr_world_tie.specs.Desks.{Desk, LedgerStep}
use Rattle.dr_world_tie.specs.Channels.{LiveTerminal, Channel, ShowsLink}
use Rattle.dr_world_tie.specs.Ties.{IsDeskOf, IsFirstPdu, IsData, Happens, receiver_read}
use Rattle.dr_world_tie.specs.Ties.{caller_read}

-- these bytes of the PDU at the front are still on the wire
pub record IsLeft (t : LiveTerminal) (wire : List ℕ) (front : Pdu) (left : List ℕ) : Type 0 where
  pub first : IsFirstPdu t wire front
  pub joined : t.ear.kept ++ left ≡ written front
  pub some : left ≢ []
  pub rest : List ℕ
  pub wire_is : wire ≡ left ++ rest

-- what a receiver may do on this link at a Move
abbrev pub IsOfReceiver : ℕ → Event → Type 0
IsOfReceiver number (AgreeReceiver link answer) = link ≡ number
IsOfReceiver number (Receive link reply) = link ≡ number
IsOfReceiver number (BreakReceiver link) = link ≡ number
IsOfReceiver number event = ⊥

-- what a caller may do
abbrev pub IsOfCaller : ℕ → Event → Type 0
IsOfCaller number (AgreeCaller link answer) = link ≡ number
IsOfCaller number (Answered link answer) = link ≡ number
IsOfCaller number (BreakCaller link answer) = link ≡ number
IsOfCaller number event = ⊥

-- Where bytes are on the wire of a receiver that is on, a PDU is at its front; and as many of its
-- bytes as one likes are either an event of the receiver, only where they are all that is left of
-- it, or nothing, and then the channel is the same link; nothing only where there is more of it, or
-- where it is a value of data.
abbrev pub ReceiverMoves : Type 0
ReceiverMoves =
    (plan : Network) (certificate : Certificate)
    → IsCertified plan certificate
    → (w : World) (number : ℕ) (link : Link) (k : Channel) (s : Desk)
    → IsLink w number link
    → IsDeskOf w link.receiver s
    → ShowsLink plan certificate k link
    → link.receiver_connected ≡ true
    → k.to_receiver ≢ [] → (moment : Moment) → moment.now ≡ w.time
    → moment.others ≡ others w number link.receiver
    → (front : Pdu) × (left : List ℕ)
    × IsLeft k.receiver k.to_receiver front left
    × ((n : ℕ) → n ≤ length left
    → (new : Feeding) (x : Effect) (t : Desk)
    → PlaysBytes (LedgerStep plan link.receiver) moment k.receiver.ear k.receiver.core
    (take n k.to_receiver) s new x t
    → ((event : Event)
    × IsOfReceiver number event
    × (n ≡ length left)
    × Happens plan certificate w number event link.receiver t (receiver_read k n new x))
    ⊎ ((t ≡ s)
    × ShowsLink plan certificate (receiver_read k n new x) link
    × ((n < length left) ⊎ IsData front)))

-- the same of a caller
abbrev pub CallerMoves : Type 0
CallerMoves =
    (plan : Network) (certificate : Certificate)
    → IsCertified plan certificate
    → (w : World) (number : ℕ) (link : Link) (k : Channel) (s : Desk)
    → IsLink w number link → IsDeskOf w link.caller s
    → ShowsLink plan certificate k link
    → link.caller_connected ≡ true
    → k.to_caller ≢ [] → (moment : Moment) → moment.now ≡ w.time
    → (front : Pdu) × (left : List ℕ)
    × IsLeft k.caller k.to_caller front left
    × ((n : ℕ) → n ≤ length left
    → (new : Feeding) (x : Effect) (t : Desk)
    → PlaysBytes (LedgerStep plan link.caller) moment k.caller.ear k.caller.core
    (take n k.to_caller) s new x t
    → ((event : Event) × IsOfCaller number event × (n ≡ length left)
    × Happens plan certificate w number event link.caller t (caller_read k n new x))
    ⊎ ((t ≡ s)
    × ShowsLink plan certificate (caller_read k n new x) link
    × ((n < length left) ⊎ IsData front)))
