-- A link that is closed at both ends.
use Rattle.std.specs.Prelude.{◌≡◌, ◌⊎◌, ℕ, [], Option}
use Rattle.dr_plan_model.specs.Networks.{Network}
use Rattle.dr_plan_sound.specs.declared.certificate.Certificate.{Certificate}
use Rattle.dr_ulstate.specs.Phases.{state_of}
use Rattle.dr_ulstate.specs.declared.table.State.TheVariants.{Sta1}
use Rattle.dr_session.specs.declared.ends.Core.{Core}
use Rattle.dr_session.specs.declared.ends.Effect.{Effect}
use Rattle.dr_session.specs.declared.ends.Input.TheVariants.{Ended}
use Rattle.dr_session.specs.declared.ends.Moment.{Moment}
use Rattle.dr_session.specs.Desks.{DeskCall, DeskAnswer}
use Rattle.dr_session.specs.Reactions.{effect}
use Rattle.dr_session.specs.Plays.{Reacts, at_moment}
use Rattle.dr_world_model.specs.Worlds.{World, Link}
use Rattle.dr_world_model.specs.Calls.{Answer}
use Rattle.dr_world_model.specs.Steps.{IsLink}
use Rattle.dr_world_model.specs.Events.{Close}
use Rattle.dr_world_tie.specs.Desks.{Desk, LedgerStep}
use Rattle.dr_world_tie.specs.Channels.{Channel, ShowsLink}
use Rattle.dr_world_tie.specs.Ties.{IsDeskOf, Happens}

-- an end has its connection ended; one that is over already does nothing
abbrev pub IsEnded : {S : Type 0}
    → (S → DeskCall → DeskAnswer → S → Type 0)
    → Core → Moment → S → Effect → S → Type 0
IsEnded step c moment s x t =
    Reacts step c (at_moment moment Ended) s x t
    ⊎ ((state_of c.phase ≡ Sta1) × (x ≡ effect [] c) × (t ≡ s))

-- the channel after both ends had their connections ended: what was on the wires is lost
abbrev pub closed : Channel → Effect → Effect → Channel
closed k x y = record {
  caller = record { core = x.core; ear = k.caller.ear };
  receiver = record { core = y.core; ear = k.receiver.ear };
  to_caller = [];
  to_receiver = [];
}

-- Closing a link at both ends, wherever they stand, is its Close; the receiver's node is left as it
-- was.
abbrev pub ClosingIsClose : Type 0
ClosingIsClose =
    (plan : Network) (certificate : Certificate) (w : World) (number : ℕ) (link : Link)
    (k : Channel) (s r : Desk)
    → IsLink w number link → IsDeskOf w link.caller s
    → IsDeskOf w link.receiver r
    → ShowsLink plan certificate k link
    → (moment later : Moment) → moment.now ≡ w.time → later.now ≡ w.time
    → (x y : Effect) (t u : Desk)
    → IsEnded (LedgerStep plan link.caller) k.caller.core moment s x t
    → IsEnded (LedgerStep plan link.receiver) k.receiver.core later r y u
    → (u ≡ r)
    × ((answer : Option Answer)
    × Happens plan certificate w number (Close number answer) link.caller t (closed k x y))
