-- An instance that a node is to forget: whether it is under way from there.
use Rattle.std.specs.Prelude.{◌&&◌, ℕ, Bool, false, Option, Some, None}
use Rattle.std.specs.List.{list_any}
use Rattle.std.specs.Ordering.{nat_cmp}
use Rattle.std.specs.FinMap as map
use Rattle.std.specs.BTreeMap as tree
use Rattle.std.specs.BTreeMap.{BTreeMap}
use Rattle.dr_base.specs.Texts.{Text}
use Rattle.dr_ledger.specs.declared.ledger.Ledger.{Ghosts}
use Rattle.dr_session.specs.Pendings.{pending_in}
use Rattle.dr_node.specs.declared.links.LinkSide.{LinkSide}
use Rattle.dr_node.specs.declared.node.Node.{Node}
use Rattle.dr_world_model.specs.Worlds.{same_text}
use Rattle.dr_world.specs.declared.wires.Wires.{Wires}
use Rattle.dr_world.specs.Shows.{Seat, Seats}
use Rattle.dr_world.specs.Nodes.{seats_of}

-- the uid whose store awaits its response at a side of a link
abbrev pub pending_of_side : Option LinkSide → Option Text
pending_of_side None = None
pending_of_side (Some side) = pending_in side.end.core

-- at a node's side of the link of that number
abbrev pub pending_at : ℕ → Option Seat → Option Text
pending_at number None = None
pending_at number (Some seat) = pending_of_side (map.get seat.sides number)

abbrev pub is_uid : Text → Option Text → Bool
is_uid uid None = false
is_uid uid (Some other) = same_text other uid

-- the node asked for the link, and this, which it has pending there, is the uid
abbrev pub pends_over : Text → Text → Option Text → Option Wires → Bool
pends_over name uid pending None = false
pends_over name uid pending (Some w) = same_text w.caller name && is_uid uid pending

-- the node asked for the link of that number, and has the uid pending there
abbrev pub pends : Seats → (ℕ → Option Wires) → Text → Text → ℕ → Bool
pends seats wires name uid number =
    pends_over name uid (pending_at number (seats name)) (wires number)

-- the same, of nodes and wires as a world keeps them
abbrev pub pends_here : {L : Type 0} {l : Ghosts L} → BTreeMap Text (Node L l) → BTreeMap ℕ Wires →
    Text → Text → ℕ → Bool
pends_here nodes wires name uid number =
    pends (seats_of nodes) (λ n. tree.get nat_cmp wires n) name uid number

-- it does so over one of the links
abbrev pub is_under_way : {L : Type 0} {l : Ghosts L}
    → BTreeMap Text (Node L l) → BTreeMap ℕ Wires → Text → Text → Bool
is_under_way nodes wires name uid = list_any (pends_here nodes wires name uid) (tree.keys wires)
