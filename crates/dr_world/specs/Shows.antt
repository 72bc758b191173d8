-- Which world of bytes a simulator's world is: its nodes by name, and for each link its ends' names
-- and its wires.
use Rattle.std.specs.Prelude.{◌≡◌, ◌≢◌, ◌⊎◌, ℕ, ◌<◌, Bool, true, false, cond, Option, Some, None}
use Rattle.std.specs.Ordering.{nat_cmp, eq_by_cmp}
use Rattle.std.specs.FinMap as map
use Rattle.dr_base.specs.Texts.{Text}
use Rattle.dr_plan_model.specs.Networks.{Network}
use Rattle.dr_plan_sound.specs.declared.certificate.Certificate.{Certificate}
use Rattle.dr_site.specs.Parts.{Part, IsPartOf}
use Rattle.dr_ledger.specs.Books.{empty_book}
use Rattle.dr_session.specs.Ledgers.{Desk, desk}
use Rattle.dr_node.specs.declared.links.LinkSide.{LinkSide}
use Rattle.dr_node.specs.Sides.{Sides, is_taken}
use Rattle.dr_world_model.specs.Worlds.{same_text}
use Rattle.dr_world_model.specs.Events.{HasNode}
use Rattle.dr_world_tie.specs.Channels.{LiveTerminal, Channel}
use Rattle.dr_world_tie.specs.ByteWorlds.{ByteWorld, WorldStep, StepNote, Steps, caller_of}
use Rattle.dr_world_tie.specs.ByteWorlds.{receiver_of}
use Rattle.dr_world.specs.declared.wires.Wires.{Wires}

-- a node: its site, its sides of links, and its ledger as a desk
pub record Seat : Type 0 where
  pub site : Part
  pub sides : Sides
  pub desk : Desk

-- the nodes by name; another name has none
abbrev pub Seats : Type 0
Seats = Text → Option Seat

-- what a world has
pub record Contents : Type 0 where
  pub now : ℕ  -- milliseconds
  pub opened : ℕ  -- how many links were ever opened
  pub seats : Seats
  pub wires : ℕ → Option Wires  -- by the links' numbers

-- ---- nodes

-- a name that no node has stands for an empty book (in the world of bytes each name has a desk)
abbrev pub desk_at : Option Seat → Desk
desk_at None = desk empty_book false
desk_at (Some seat) = seat.desk

-- each node of the plan, with its own part of the plan, and no other
pub record IsSeated (plan : Network) (certificate : Certificate) (seats : Seats) : Type 0 where
  pub each : (name : Text) (seat : Seat)
      → seats name ≡ Some seat
      → (seat.site.name ≡ name) × IsPartOf plan certificate seat.site
  pub all : (name : Text) → HasNode plan name → (seat : Seat) × (seats name ≡ Some seat)

-- one node is another now
abbrev pub with_seat : Seats → Text → Seat → Seats
with_seat seats name seat other = cond (same_text other name) (Some seat) (seats other)

-- its ledger alone has changed
abbrev pub with_desk_of : Seat → Desk → Seat
with_desk_of seat t = record { site = seat.site; sides = seat.sides; desk = t }

-- one of its sides is another now, and its ledger
abbrev pub with_side : Seat → ℕ → LinkSide → Desk → Seat
with_side seat number side t =
    record { site = seat.site; sides = map.insert seat.sides number side; desk = t }

-- ---- links

-- a link has these wires now
abbrev pub with_wires : (ℕ → Option Wires) → ℕ → Wires → ℕ → Option Wires
with_wires wires number w other = cond (eq_by_cmp nat_cmp other number) (Some w) (wires other)

-- after something was done at one end of a link, at that node
abbrev pub with_end_done : Contents → Text → Seat → ℕ → LinkSide → Desk → Wires → Contents
with_end_done c name seat number side t w = record {
  now = c.now;
  opened = c.opened;
  seats = with_seat c.seats name (with_side seat number side t);
  wires = with_wires c.wires number w;
}

-- An end as its node has it. Its core is there: where memory ended one the whole world is over, and
-- stands for no world of bytes.
abbrev pub side_of : Bool → LiveTerminal → LinkSide
side_of accepted end =
    record { end = record { ear = end.ear; core = Some end.core }; accepted = accepted }

abbrev pub HasSide : Seats → Text → ℕ → LinkSide → Type 0
HasSide seats name number side =
    (seat : Seat) × (seats name ≡ Some seat) × (map.get seat.sides number ≡ Some side)

-- A link: its two ends stand at two nodes under the link's number, and the wires are its own.
pub record IsLinked (seats : Seats) (number : ℕ) (w : Wires) (k : Channel) : Type 0 where
  pub caller : caller_of k ≡ w.caller
  pub receiver : receiver_of k ≡ w.receiver
  -- so a node has one side of a link at most, and the number names it
  pub apart : w.caller ≢ w.receiver
  pub at_caller : HasSide seats w.caller number (side_of false k.caller)
  pub at_receiver : HasSide seats w.receiver number (side_of true k.receiver)
  pub to_caller : k.to_caller ≡ w.to_caller.items
  pub to_receiver : k.to_receiver ≡ w.to_receiver.items

-- a number has wires and the channel that they are of, or neither
abbrev pub LinkedAt : Seats → ℕ → Option Wires → Option Channel → Type 0
LinkedAt seats number None None = Unit {0}
LinkedAt seats number (Some w) (Some k) = IsLinked seats number w k
LinkedAt seats number None (Some k) = ⊥
LinkedAt seats number (Some w) None = ⊥

-- a side is of a link of its node
abbrev pub IsOfLink : (ℕ → Option Wires) → Text → ℕ → Type 0
IsOfLink wires name number =
    (w : Wires) × (wires number ≡ Some w) × ((name ≡ w.caller) ⊎ (name ≡ w.receiver))

-- ---- the whole world

pub record ShowsBytes (c : Contents) (b : ByteWorld) : Type 0 where
  pub time : b.time ≡ c.now
  pub opened : b.opened ≡ c.opened
  pub desks : (name : Text) → b.desks name ≡ desk_at (c.seats name)
  pub links : (number : ℕ) → LinkedAt c.seats number (c.wires number) (map.get b.links number)
  -- A side whose link is there no more, as its other node was started anew, is over: it isn't
  -- counted among others.
  pub sides : (name : Text) (number : ℕ) (side : LinkSide)
      → HasSide c.seats name number side
      → IsOfLink c.wires name number ⊎ (is_taken side ≡ false)
  -- the next link's number is free at each node
  pub fresh : (name : Text) (number : ℕ) (side : LinkSide)
      → HasSide c.seats name number side
      → c.opened < number → ⊥

-- A step of the world of bytes that stood beside the old contents, to one that stands beside the
-- new.
abbrev pub Becomes : Network → Certificate → ByteWorld → WorldStep → StepNote → Contents → Type 0
Becomes plan certificate b step note new =
    (after : ByteWorld) × Steps plan certificate b step note after × ShowsBytes new after
