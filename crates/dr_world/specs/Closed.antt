-- A link that is closed.
use Rattle.std.specs.Prelude.{◌≡◌, ℕ, List, [], Some, Ok}
use Rattle.std.specs.FinMap as map
use Rattle.dr_ledger.specs.SiteRoutes.{site_routing}
use Rattle.dr_session.specs.declared.ends.Input.TheVariants.{Ended}
use Rattle.dr_session.specs.declared.ends.LinkAction.{LinkAction}
use Rattle.dr_session.specs.Ends.{Terminal, Meets}
use Rattle.dr_session.specs.Ledgers.{Desk, RoutedStep}
use Rattle.dr_node.specs.declared.links.LinkSide.{LinkSide}
use Rattle.dr_node.specs.Sides.{moment_at, with_end}
use Rattle.dr_world.specs.declared.wires.Wires.{Wires}
use Rattle.dr_world.specs.Shows.{Contents, Seat, with_seat, with_side, with_wires}

-- what was on the wires is lost
pub record AreLost (w v : Wires) : Type 0 where
  pub caller : v.caller ≡ w.caller
  pub receiver : v.receiver ≡ w.receiver
  pub to_caller : v.to_caller.items ≡ []
  pub to_receiver : v.to_receiver.items ≡ []

-- The connection of a link is lost: first the receiver's end hears of it, then the caller's.
pub record IsClosed (old : Contents) (number : ℕ) (new : Contents) : Type 0 where
  pub wires : Wires
  pub after : Wires
  pub wired : old.wires number ≡ Some wires
  pub lost : AreLost wires after
  pub far : Seat
  pub is_far : old.seats wires.receiver ≡ Some far
  pub theirs : LinkSide
  pub has_theirs : map.get far.sides number ≡ Some theirs
  pub acts : List LinkAction
  pub end : Terminal
  pub desk : Desk
  pub ends : Meets (RoutedStep (site_routing far.site)) (moment_at number far.sides old.now) Ended
      theirs.end far.desk (Ok acts) end desk
  pub near : Seat
  pub is_near : with_seat old.seats wires.receiver (with_side far number (with_end theirs end) desk)
      wires.caller
      ≡ Some near
  pub mine : LinkSide
  pub has_mine : map.get near.sides number ≡ Some mine
  pub own_acts : List LinkAction
  pub own_end : Terminal
  pub own_desk : Desk
  pub own_ends : Meets (RoutedStep (site_routing near.site)) (moment_at number near.sides old.now)
      Ended mine.end near.desk (Ok own_acts) own_end own_desk
  pub is : new ≡ record {
    now = old.now;
    opened = old.opened;
    seats = with_seat
        (with_seat old.seats wires.receiver (with_side far number (with_end theirs end) desk))
        wires.caller (with_side near number (with_end mine own_end) own_desk);
    wires = with_wires old.wires number after;
  }
