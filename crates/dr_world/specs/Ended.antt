-- A Move of all that is left of a PDU ends it.
use Rattle.std.specs.Prelude.{◌≡◌, ℕ, ◌≤◌, false, List, length, map as mapped, Some}
use Rattle.std.specs.FinMap as map
use Rattle.dr_base.specs.Texts.{Text}
use Rattle.dr_plan_model.specs.Networks.{Network}
use Rattle.dr_plan_sound.specs.declared.certificate.Certificate.{Certificate}
use Rattle.dr_pdu.specs.declared.pdu.Pdu.{Pdu}
use Rattle.dr_pdu.specs.Feeding.{Feeding, fresh}
use Rattle.dr_session.specs.declared.ends.Effect.{Effect}
use Rattle.dr_session.specs.declared.ends.Moment.{Moment}
use Rattle.dr_session.specs.Ledgers.{Desk}
use Rattle.dr_session.specs.Plays.{Plays, at_moment, inputs_of}
use Rattle.dr_world_tie.specs.Desks.{LedgerStep}
use Rattle.dr_world_tie.specs.Channels.{LiveTerminal, Channel}
use Rattle.dr_world_tie.specs.Moves.{IsLeft}
use Rattle.dr_world_tie.specs.Ties.{caller_read, receiver_read}
use Rattle.dr_world_tie.specs.ByteWorlds.{ByteWorld, Move, Side, Requestor, Acceptor, StepNote}
use Rattle.dr_world_tie.specs.ByteWorlds.{Done, Steps, IsMoment, caller_of, receiver_of, core_at}
use Rattle.dr_world_tie.specs.ByteWorlds.{is_over, with_done}

-- an end of a link, its node, and what is on its way to it
abbrev pub end_at : Side → Channel → LiveTerminal
end_at Requestor k = k.caller
end_at Acceptor k = k.receiver

abbrev pub node_at : Side → Channel → Text
node_at Requestor k = caller_of k
node_at Acceptor k = receiver_of k

abbrev pub coming_to : Side → Channel → List ℕ
coming_to Requestor k = k.to_caller
coming_to Acceptor k = k.to_receiver

-- after the end read the first bytes of its wire
abbrev pub after_reading : Side → Channel → ℕ → Feeding → Effect → Channel
after_reading Requestor k n ear x = caller_read k n ear x
after_reading Acceptor k n ear x = receiver_read k n ear x

-- The end has heard the PDU, whose rest is off its wire, and no byte behind it; it keeps nothing of
-- it.
pub record HasHeard (plan : Network) (b : ByteWorld) (link : ℕ) (side : Side) (k : Channel)
    (front : Pdu) (left : List ℕ) (after : ByteWorld) : Type 0 where
  pub at : Moment
  pub moment : IsMoment b link (node_at side k) at
  pub x : Effect
  pub t : Desk
  pub plays : Plays (LedgerStep plan (node_at side k)) (core_at k side)
      (mapped (at_moment at) (inputs_of front)) (b.desks (node_at side k)) x.acts x.core t
  pub is : after
      ≡ with_done b (node_at side k) t link
      (after_reading side k (length left) (fresh (end_at side k).ear.limit) x)

-- Where the rest of a PDU is at the front of an end's wire, and at least as many bytes are asked
-- for, the end hears the PDU. (An end that is over hears nothing any more, nor does one whose bytes
-- were no PDU.)
abbrev pub MoveEndsPdu : Type 0
MoveEndsPdu =
    (plan : Network) (certificate : Certificate) (b after : ByteWorld) (link n : ℕ) (side : Side)
    (note : StepNote) (k : Channel)
    → map.get b.links link ≡ Some k
    → is_over (core_at k side) ≡ false
    → (end_at side k).ear.failed ≡ false
    → (front : Pdu) (left : List ℕ)
    → IsLeft (end_at side k) (coming_to side k) front left
    → length left ≤ n
    → Steps plan certificate b (Move link side n) note after
    → (note ≡ Done) × HasHeard plan b link side k front left after
