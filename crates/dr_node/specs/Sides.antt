-- A node's links, and what happens at one of them.
use Rattle.std.specs.Prelude.{◌≡◌, ℕ, ◌==◌, ◌&&◌, not, Bool, true, false, List, [], length, filter}
use Rattle.std.specs.Prelude.{Option, Some, None, Result, Ok, Err}
use Rattle.std.specs.Ordering.{nat_cmp}
use Rattle.std.specs.FinMap as map
use Rattle.std.specs.FinMap.{FinMap}
use Rattle.std.specs.declared.alloc.AllocError.{AllocError}
use Rattle.dr_base.specs.Texts.{Text}
use Rattle.dr_ulstate.specs.declared.table.State.{State}
use Rattle.dr_ulstate.specs.declared.table.State.TheVariants.{Sta6, Sta7, Sta8, Sta9, Sta10, Sta11}
use Rattle.dr_ulstate.specs.declared.table.State.TheVariants.{Sta12}
use Rattle.dr_plan_sound.specs.declared.certificate.Hop.{Hop}
use Rattle.dr_site.specs.Parts.{Part}
use Rattle.dr_nego.specs.Proposing.{IsHopTo}
use Rattle.dr_ledger.specs.declared.fault.LedgerFault.{LedgerFault}
use Rattle.dr_session.specs.declared.ends.Heard.{Heard}
use Rattle.dr_session.specs.declared.ends.Input.TheVariants.{AbortAsked, ReleaseAsked, PushAsked}
use Rattle.dr_session.specs.declared.ends.LinkAction.{LinkAction}
use Rattle.dr_session.specs.declared.ends.Moment.{Moment}
use Rattle.dr_session.specs.Desks.{DeskCall, DeskAnswer}
use Rattle.dr_session.specs.Ends.{Terminal, HearsOf, Meets, OpensTo, accepting, begins, state_in}
use Rattle.dr_node.specs.declared.event.LinkEvent.{LinkEvent}
use Rattle.dr_node.specs.declared.event.LinkEvent.TheVariants as event
use Rattle.dr_node.specs.declared.fault.NodeFault.{NodeFault}
use Rattle.dr_node.specs.declared.fault.NodeFault.TheVariants.{LinkKnown, LinkUnknown, NoHop}
use Rattle.dr_node.specs.declared.fault.NodeFault.TheVariants.{Memory}
use Rattle.dr_node.specs.declared.links.LinkSide.{LinkSide}

-- the sides of a node's links, by the links' numbers
abbrev pub Sides : Type 0
Sides = FinMap nat_cmp LinkSide

-- the side with another end
abbrev pub with_end : LinkSide → Terminal → LinkSide
with_end side end = record { end = end; accepted = side.accepted }

-- the sides after an adoption: none, or as they were where it was refused
abbrev pub sides_after : Result (Unit {0}) LedgerFault → Sides → Sides
sides_after (Ok done) old = map.empty
sides_after (Err why) old = old

-- ---- how many associations a node has accepted and not left

-- an association stands from the acceptance on until it is left: Sta6 to Sta12 (PS3.8 9.2.1)
abbrev pub is_standing : State → Bool
is_standing Sta6 = true
is_standing Sta7 = true
is_standing Sta8 = true
is_standing Sta9 = true
is_standing Sta10 = true
is_standing Sta11 = true
is_standing Sta12 = true
is_standing s = false

-- the node accepted it, and hasn't left it
abbrev pub is_taken : LinkSide → Bool
is_taken side = side.accepted && is_standing (state_in side.end.core)

-- and it is of another link
abbrev pub is_other : ℕ → ℕ × LinkSide → Bool
is_other link entry = not (entry.0 == link) && is_taken entry.1

-- how many links other than this one are such
abbrev pub others : ℕ → Sides → ℕ
others link sides = length (filter (is_other link) (map.entries sides))

abbrev pub moment_at : ℕ → Sides → ℕ → Moment
moment_at link sides now = record { now = now; others = others link sides }

-- ---- what happens at one link

-- what one end does: at a moment, its value and the port's before, the answer, and both after
abbrev pub EndDeed : Type 0 → Type 1
EndDeed S = Moment → Terminal → S → Result (List LinkAction) AllocError → Terminal → S → Type 0

-- an event at an end
abbrev pub MeetsEvent : {S : Type 0}
    → (S → DeskCall → DeskAnswer → S → Type 0)
    → LinkEvent → EndDeed S
MeetsEvent step (event.Heard heard) at old s result new t = HearsOf step heard at old s result new t
MeetsEvent step event.Abort at old s result new t = Meets step at AbortAsked old s result new t
MeetsEvent step event.Release at old s result new t = Meets step at ReleaseAsked old s result new t

-- a push at an end
abbrev pub Pushes : {S : Type 0} → (S → DeskCall → DeskAnswer → S → Type 0) → EndDeed S
Pushes step at old s result new t = Meets step at PushAsked old s result new t

-- The same at one link: its end alone is another. A link that isn't there does nothing.
abbrev pub MeetsAt : {S : Type 0}
    → (Terminal → S → Result (List LinkAction) AllocError → Terminal → S → Type 0)
    → ℕ → Option LinkSide → Sides → S
    → Option (Result (List LinkAction) AllocError)
    → Sides → S → Type 0
MeetsAt does link None old s None new t = (new ≡ old) × (t ≡ s)
MeetsAt does link (Some side) old s (Some answer) new t =
    (end : Terminal)
    × does side.end s answer end t
    × (new ≡ map.insert old link (with_end side end))
MeetsAt does link known old s other new t = ⊥

-- The deed is done at the link's end alone, with that many others counted. Where memory ended the
-- link is dropped.
abbrev pub DoesAt : {S : Type 0} → EndDeed S → ℕ → ℕ → LinkSide → Sides → S
    → Result (List LinkAction) NodeFault
    → Sides → S → Type 0
DoesAt does now link side old s (Ok acts) new t =
    (end : Terminal)
    × does (moment_at link old now) side.end s (Ok acts) end t
    × (new ≡ map.insert old link (with_end side end))
DoesAt does now link side old s (Err Memory) new t =
    (end : Terminal) × (why : AllocError)
    × does (moment_at link old now) side.end s (Err why) end t
    × (new ≡ map.remove old link)
DoesAt does now link side old s (Err other) new t = ⊥

-- An unknown link is refused, and nothing is done.
abbrev pub DoesIn : {S : Type 0} → EndDeed S → ℕ → ℕ → Option LinkSide → Sides → S
    → Result (List LinkAction) NodeFault
    → Sides → S → Type 0
DoesIn does now link None old s result new t = (result ≡ Err LinkUnknown) × (new ≡ old) × (t ≡ s)
DoesIn does now link (Some side) old s result new t = DoesAt does now link side old s result new t

abbrev pub Does : {S : Type 0} → EndDeed S → ℕ → ℕ → Sides → S
    → Result (List LinkAction) NodeFault
    → Sides → S → Type 0
Does does now link old s result new t = DoesIn does now link (map.get old link) old s result new t

-- ---- how a link begins

-- the side of a connection that was opened to this node
abbrev pub accepts_at : Part → ℕ → LinkSide
accepts_at site now = record { end = begins site.max_pdu (accepting site now); accepted = true }

-- A link is accepted where there is none of its number.
abbrev pub AcceptsIn : Option LinkSide → Part → ℕ → ℕ → Sides
    → Result (Unit {0}) NodeFault
    → Sides → Type 0
AcceptsIn None site link now old (Ok done) new = new ≡ map.insert old link (accepts_at site now)
AcceptsIn None site link now old (Err Memory) new = new ≡ old
AcceptsIn (Some side) site link now old (Err LinkKnown) new = new ≡ old
AcceptsIn known site link now old result new = ⊥

abbrev pub AcceptsLink : Part → ℕ → ℕ → Sides → Result (Unit {0}) NodeFault → Sides → Type 0
AcceptsLink site link now old result new = AcceptsIn (map.get old link) site link now old result new

-- A link is opened where there is none of its number, for a hop of the site. The request goes out
-- at once.
abbrev pub OpensIn : Option LinkSide → Part → Text → ℕ → ℕ → Sides
    → Result (List LinkAction) NodeFault
    → Sides → Type 0
OpensIn None site dest link now old (Ok acts) new =
    (end : Terminal)
    × OpensTo site dest now (Ok (end, acts))
    × (new ≡ map.insert old link (record { end = end; accepted = false }))
OpensIn None site dest link now old (Err NoHop) new =
    ((hop : Hop) → IsHopTo site dest hop → ⊥) × (new ≡ old)
OpensIn None site dest link now old (Err Memory) new =
    ((hop : Hop) × IsHopTo site dest hop) × (new ≡ old)
OpensIn (Some side) site dest link now old (Err LinkKnown) new = new ≡ old
OpensIn known site dest link now old result new = ⊥

abbrev pub Opens : Part → Text → ℕ → ℕ → Sides → Result (List LinkAction) NodeFault → Sides → Type 0
Opens site dest link now old result new =
    OpensIn (map.get old link) site dest link now old result new

-- ---- states

abbrev pub state_of_side : Option LinkSide → Option State
state_of_side None = None
state_of_side (Some side) = Some (state_in side.end.core)
