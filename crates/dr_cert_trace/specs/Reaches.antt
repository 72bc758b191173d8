-- To which nodes a key comes that enters at a site, and which of them keep it.
use Rattle.std.specs.Prelude.{◌≡◌, ◌≤◌, ◌⊎◌, ◌↔◌, ℕ, List, length, Contains, Option, Some, None}
use Rattle.std.specs.BTreeSet.{BTreeSet}
use Rattle.dr_base.specs.Texts.{Text, IsInByteOrder}
use Rattle.dr_route.specs.Names.{HasName}
use Rattle.dr_route.specs.Routes.{local}
use Rattle.dr_route.specs.declared.key.Key.{Key}
use Rattle.dr_plan_model.specs.Networks.{Network}
use Rattle.dr_plan_model.specs.Walks.{Sends, Keeps, IsEntry, IsWalk, IsDestination, last_place}
use Rattle.dr_cert_trace.specs.Found.{HasPair}
use Rattle.dr_cert_trace.specs.declared.reaching.Reach.{Reach}

-- a walk of the key from the site, where it enters, comes to the node; a walk of no hop comes to
-- the site itself
abbrev pub ComesToNode : Network → Text → Key → Text → Type 0
ComesToNode plan site key name =
    (over : List Text)
    × IsWalk plan key local site over
    × ((last_place local site over).1 ≡ name)

-- Of a key that enters at the site: exactly the nodes to which its walks come, and exactly those
-- that keep it, each in byte order.
pub record IsReach (plan : Network) (site : Text) (key : Key) (reach : Reach) : Type 0 where
  pub enters : IsEntry plan site key
  pub nodes : (name : Text) → Contains reach.nodes name ↔ ComesToNode plan site key name
  pub nodes_ordered : IsInByteOrder reach.nodes
  pub keeps : (dest : Text) → Contains reach.keeps dest ↔ IsDestination plan local site key dest
  pub keeps_ordered : IsInByteOrder reach.keeps

-- where the key comes that enters at the site; none where no flow there fits it
abbrev pub Reaches : Network → Text → Key → Option Reach → Type 0
Reaches plan site key (Some reach) = IsReach plan site key reach
Reaches plan site key None = IsEntry plan site key → ⊥

-- the new set has what the old one had, and what some element of the list gives
abbrev pub Gathers : {X Y : Type 0} → (X → Y → Type 0) → List X → (Y → Type 0) → (Y → Type 0)
    → Type 0
Gathers {X} {Y} Gives xs Old New =
    (y : Y) → New y ↔ (Old y ⊎ ((x : X) × Contains xs x × Gives x y))

-- the place's node sends the key on, from itself to another one
abbrev pub SendsFrom : Network → Key → Text × Text → Text × Text → Type 0
SendsFrom plan key place pair = (pair.0 ≡ place.1) × Sends plan place.1 place.0 key pair.1

-- the place's node has that name
abbrev pub IsAt : Text × Text → Text → Type 0
IsAt place name = place.1 ≡ name

-- the place's node keeps the key
abbrev pub KeepsAt : Network → Key → Text × Text → Text → Type 0
KeepsAt plan key place name = (name ≡ place.1) × Keeps plan place.1 place.0 key

-- what the nodes of these places do with the key: the places behind them are the next ones, and
-- their names and those that keep are noted
pub record PassesAll (plan : Network) (key : Key) (front : List (Text × Text))
    (next : BTreeSet (Text × Text)) (nodes now_nodes keeps now_keeps : BTreeSet Text)
    : Type 0 where
  pub behind : Gathers (SendsFrom plan key) front (λ pair. ⊥) (HasPair next)
  pub comes : Gathers IsAt front (HasName nodes) (HasName now_nodes)
  pub ends : Gathers (KeepsAt plan key) front (HasName keeps) (HasName now_keeps)

-- what is found by the walks of that many hops and fewer: the nodes to which they come, and those
-- of them that keep
pub record AreWithin (plan : Network) (site : Text) (key : Key) (hops : ℕ)
    (nodes keeps : BTreeSet Text) : Type 0 where
  pub comes : (name : Text)
      → HasName nodes name
      ↔ ((over : List Text) × IsWalk plan key local site over × (length over ≤ hops)
      × IsAt (last_place local site over) name)
  pub ends : (name : Text)
      → HasName keeps name
      ↔ ((over : List Text) × IsWalk plan key local site over × (length over ≤ hops)
      × KeepsAt plan key (last_place local site over) name)
