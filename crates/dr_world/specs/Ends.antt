-- What is done at one end of a link, as a world's contents show it.
use Rattle.std.specs.Prelude.{◌≡◌, ◌++◌, ℕ, List, [], ◌∷◌, drop, Some, Result, Ok}
use Rattle.std.specs.FinMap as map
use Rattle.std.specs.declared.alloc.AllocError.{AllocError}
use Rattle.dr_base.specs.Texts.{Text}
use Rattle.dr_site.specs.Parts.{Part}
use Rattle.dr_session.specs.declared.ends.LinkAction.{LinkAction}
use Rattle.dr_session.specs.declared.ends.Moment.{Moment}
use Rattle.dr_session.specs.Ends.{Terminal}
use Rattle.dr_session.specs.Ledgers.{Desk}
use Rattle.dr_node.specs.declared.links.LinkSide.{LinkSide as NodeSide}
use Rattle.dr_node.specs.Sides.{moment_at, with_end}
use Rattle.dr_world_tie.specs.Channels.{bytes_of}
use Rattle.dr_world_tie.specs.ByteWorlds.{Side, Requestor, Acceptor, StepNote, Done, Skipped}
use Rattle.dr_world_script.specs.declared.step.Side as steps
use Rattle.dr_world_script.specs.declared.step.Side.TheVariants as side
use Rattle.dr_world.specs.declared.wires.Wires.{Wires}
use Rattle.dr_world.specs.Shows.{Contents, Seat, with_end_done}

-- a side, as the world of bytes has it
abbrev pub named : steps.Side → Side
named side.Requestor = Requestor
named side.Acceptor = Acceptor

-- the node of a side
abbrev pub name_at : Side → Wires → Text
name_at Requestor w = w.caller
name_at Acceptor w = w.receiver

-- what was written to a side and not yet moved
abbrev pub wire_at : Side → Wires → List ℕ
wire_at Requestor w = w.to_caller.items
wire_at Acceptor w = w.to_receiver.items

abbrev pub opposite : Side → Side
opposite Requestor = Acceptor
opposite Acceptor = Requestor

-- so many bytes were taken off the wire of a side, and behind the other wire stands what was
-- written
pub record AreWritten (side : Side) (taken : ℕ) (acts : List LinkAction)
    (w v : Wires) : Type 0 where
  pub caller : v.caller ≡ w.caller
  pub receiver : v.receiver ≡ w.receiver
  pub own : wire_at side v ≡ drop taken (wire_at side w)
  pub other : wire_at (opposite side) v ≡ wire_at (opposite side) w ++ bytes_of acts

-- At the end of a link that is there something was done: its node did it at its desk, so many bytes
-- were taken off the end's wire, and what it wrote is on the other end's.
pub record IsDoneAtEnd
    (does : Part → Moment → Terminal → Desk
    → Result (List LinkAction) AllocError
    → Terminal → Desk → Type 0) (taken : ℕ) (old : Contents) (number : ℕ) (side : Side)
    (acts : List LinkAction) (new : Contents) : Type 0 where
  pub wires : Wires
  pub after : Wires
  pub wired : old.wires number ≡ Some wires
  pub seat : Seat
  pub seated : old.seats (name_at side wires) ≡ Some seat
  pub own : NodeSide
  pub has : map.get seat.sides number ≡ Some own
  pub end : Terminal
  pub desk : Desk
  pub does_it :
      does seat.site (moment_at number seat.sides old.now) own.end seat.desk (Ok acts) end desk
  pub written : AreWritten side taken acts wires after
  pub is : new ≡ with_end_done old (name_at side wires) seat number (with_end own end) desk after

-- where nothing was written it is noted as skipped
abbrev pub note_by : List LinkAction → StepNote
note_by [] = Skipped
note_by (x ∷ xs) = Done
