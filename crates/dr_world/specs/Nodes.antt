-- Nodes by name, and what is done at one of them.
use Rattle.std.specs.Prelude.{◌≡◌, ℕ, Bool, true, cond, List, Option, Some, None, Ok}
use Rattle.std.specs.Option.{option_map, option_map_or}
use Rattle.std.specs.FinMap as map
use Rattle.std.specs.BTreeMap as tree
use Rattle.std.specs.BTreeMap.{BTreeMap}
use Rattle.dr_base.specs.Texts.{Text, text_cmp}
use Rattle.dr_plan_sound.specs.declared.certificate.Hop.{Hop}
use Rattle.dr_nego.specs.Proposing.{IsHopTo}
use Rattle.dr_site.specs.Parts.{Part}
use Rattle.dr_ledger.specs.declared.ledger.Ledger.{Ghosts}
use Rattle.dr_ledger.specs.SiteRoutes.{site_routing}
use Rattle.dr_session.specs.declared.ends.LinkAction.{LinkAction}
use Rattle.dr_session.specs.Ends.{is_gone}
use Rattle.dr_session.specs.Ledgers.{Desk, RoutedStep, desk}
use Rattle.dr_node.specs.declared.event.LinkEvent.{LinkEvent}
use Rattle.dr_node.specs.declared.node.Node.{Node}
use Rattle.dr_node.specs.Sides.{Sides, AcceptsLink, EndDeed, Does, MeetsEvent, Opens, Pushes}
use Rattle.dr_node.specs.Sides.{state_of_side}
use Rattle.dr_world_model.specs.Worlds.{same_text}
use Rattle.dr_world.specs.Shows.{Seat, Seats, with_seat}

-- a node with its ledger as a desk; its site is its ledger's
abbrev pub seat_of : {L : Type 0} {l : Ghosts L} → Node L l → Seat
seat_of {L} {l} n = record {
  site = l.site n.desk.ledger;
  sides = n.links;
  desk = desk (l.book n.desk.ledger) (l.armed n.desk.ledger);
}

abbrev pub seats_of : {L : Type 0} {l : Ghosts L} → BTreeMap Text (Node L l) → Seats
seats_of nodes name = option_map seat_of (tree.get text_cmp nodes name)

-- the premise of each ledger
abbrev pub AllStandIn : {L : Type 0} {l : Ghosts L} → BTreeMap Text (Node L l) → Type 0
AllStandIn {L} {l} nodes =
    (name : Text) (n : Node L l) → tree.get text_cmp nodes name ≡ Some n → l.stands n.desk.ledger

-- what is done at an end by a site's routes
abbrev pub event_at : LinkEvent → Part → EndDeed Desk
event_at event site = MeetsEvent (RoutedStep (site_routing site)) event

abbrev pub push_at : Part → EndDeed Desk
push_at site = Pushes (RoutedStep (site_routing site))

-- The node of that name did this at a link, and all other nodes are as they were; where the premise
-- of each ledger stands after it, it stood before.
abbrev pub IsDoneAt : {L : Type 0} {l : Ghosts L}
    → (Part → EndDeed Desk) → Text → ℕ → ℕ → BTreeMap Text (Node L l) → List LinkAction
    → BTreeMap Text (Node L l) → Type 0
IsDoneAt {L} {l} does name link now old acts new =
    (n : Node L l)
    × (tree.get text_cmp old name ≡ Some n)
    × (AllStandIn new → AllStandIn old)
    × (AllStandIn new
    → (sides : Sides) × (t : Desk)
    × Does (does (l.site n.desk.ledger)) now link n.links (seat_of n).desk (Ok acts) sides t
    × ((q : Text)
    → seats_of new q
    ≡ with_seat (seats_of old) name
    (record { site = l.site n.desk.ledger; sides = sides; desk = t }) q))

-- The node of that name has these sides now; its ledger is as it was, and all other nodes are.
pub record HasSides {L : Type 0} {l : Ghosts L} (name : Text) (n : Node L l) (sides : Sides)
    (old new : BTreeMap Text (Node L l)) : Type 0 where
  pub was : tree.get text_cmp old name ≡ Some n
  pub after : Node L l
  pub links : after.links ≡ sides
  pub desk : after.desk ≡ n.desk
  pub at : (q : Text)
      → tree.get text_cmp new q ≡ cond (same_text q name) (Some after) (tree.get text_cmp old q)

-- A link was asked for at the node of that name, or there is no such node, or it has no hop there.
abbrev pub OpensAt : {L : Type 0} {l : Ghosts L}
    → Text → Text → ℕ → ℕ → BTreeMap Text (Node L l) → Option (List LinkAction)
    → BTreeMap Text (Node L l) → Type 0
OpensAt {L} {l} name dest link now old (Some acts) new =
    (n : Node L l) × (sides : Sides)
    × ((hop : Hop) × IsHopTo n.site dest hop)
    × Opens n.site dest link now n.links (Ok acts) sides
    × HasSides name n sides old new
OpensAt {L} {l} name dest link now old None new =
    ((n : Node L l)
    → tree.get text_cmp old name ≡ Some n
    → (hop : Hop) → IsHopTo n.site dest hop → ⊥)
    × ((q : Text) → tree.get text_cmp new q ≡ tree.get text_cmp old q)

-- a link was accepted at the node of that name
abbrev pub AcceptsAt : {L : Type 0} {l : Ghosts L}
    → Text → ℕ → ℕ → BTreeMap Text (Node L l) → BTreeMap Text (Node L l) → Type 0
AcceptsAt {L} {l} name link now old new =
    (n : Node L l) × (sides : Sides)
    × AcceptsLink n.site link now n.links (Ok tt) sides
    × HasSides name n sides old new

-- whether a node's end of a link is over, or isn't there
abbrev pub side_over : ℕ → Sides → Bool
side_over link sides = option_map_or is_gone (state_of_side (map.get sides link)) true

abbrev pub over_at : {L : Type 0} {l : Ghosts L} → ℕ → Option (Node L l) → Bool
over_at link None = true
over_at link (Some n) = side_over link n.links
