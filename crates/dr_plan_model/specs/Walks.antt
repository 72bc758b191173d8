-- What nodes do with a key, and the walks of a key through a plan, over all keys.
use Rattle.std.specs.Prelude.{◌≡◌, List, [], ◌∷◌, Contains, ◌⊎◌}
use Rattle.dr_base.specs.Texts.{Text, Begins}
use Rattle.dr_base.specs.declared.syntax.Syntax.{Syntax}
use Rattle.dr_route.specs.Routes.{local, SendsBy, KeepsBy, AcceptsBy}
use Rattle.dr_route.specs.declared.key.Key.{Key}
use Rattle.dr_plan_model.specs.declared.plan.Node.{Node}
use Rattle.dr_plan_model.specs.declared.plan.Flow.{Flow}
use Rattle.dr_plan_model.specs.declared.plan.Values.{Values}
use Rattle.dr_plan_model.specs.declared.plan.Values.TheVariants as values
use Rattle.dr_plan_model.specs.Networks.{Network}
use Rattle.dr_plan_model.specs.Plans.{IsNode}

-- the value begins with one of the prefixes
abbrev pub BeginsOne : List Text → Text → Type 0
BeginsOne prefixes value = (prefix : Text) × Contains prefixes prefix × Begins prefix value

-- the value is one that the flow speaks of: any one, a listed one, or one that begins with a listed
-- prefix
abbrev pub IsListed : Values → Text → Type 0
IsListed values.Any value = Unit {0}
IsListed (values.Listed own) value = Contains own.literals value ⊎ BeginsOne own.prefixes value

-- the flow brings the key: its class, transfer syntax, modality and station are ones that the flow
-- speaks of
pub record FlowBrings (flow : Flow) (key : Key) : Type 0 where
  pub class : Contains flow.classes key.class
  pub syntax : Contains flow.syntaxes key.syntax
  pub modality : IsListed flow.modalities key.modality
  pub station : IsListed flow.stations key.station

-- some flow of the list, at the site and to that node, fits the key
abbrev pub FlowsAmong : List Flow → Text → Key → Text → Type 0
FlowsAmong flows site key to =
    (flow : Flow) × Contains flows flow × (flow.at ≡ site) × (flow.to ≡ to) × FlowBrings flow key

-- some flow of the plan, at the site and to that node, fits the key
abbrev pub Flows : Network → Text → Key → Text → Type 0
Flows plan site key to = FlowsAmong plan.flows site key to

-- the node sends the key, which it has from the caller, on to `to`: by a rule, or where it entered
-- there by a flow
abbrev pub Sends : Network → Text → Text → Key → Text → Type 0
Sends plan name caller key to =
    ((caller ≡ local) × Flows plan name key to)
    ⊎ ((node : Node) × IsNode plan name node × SendsBy node.rules caller key to)

-- the node keeps the key that it has from the caller
abbrev pub Keeps : Network → Text → Text → Key → Type 0
Keeps plan name caller key = (node : Node) × IsNode plan name node × KeepsBy node.rules caller key

-- the node accepts the class in that transfer syntax from the caller
abbrev pub Accepts : Network → Text → Text → Text → Syntax → Type 0
Accepts plan name caller class syntax =
    (node : Node) × IsNode plan name node × AcceptsBy node.accepts caller class syntax

-- a walk of the key from (caller, name), over these further nodes: each sends the key on to the
-- next
abbrev pub IsWalk : Network → Key → Text → Text → List Text → Type 0
IsWalk plan key caller name [] = Unit {0}
IsWalk plan key caller name (next ∷ rest) =
    Sends plan name caller key next × IsWalk plan key name next rest

-- the pairs (caller, node) of a walk: over CT1, GATE and ARCH they are (-, CT1), (CT1, GATE) and
-- (GATE, ARCH)
abbrev pub places : Text → Text → List Text → List (Text × Text)
places caller name [] = (caller, name) ∷ []
places caller name (next ∷ rest) = (caller, name) ∷ places name next rest

-- the last pair (caller, node) of a walk
abbrev pub last_place : Text → Text → List Text → Text × Text
last_place caller name [] = (caller, name)
last_place caller name (next ∷ rest) = last_place name next rest

-- the key enters at the site: some flow there fits it
abbrev pub IsEntry : Network → Text → Key → Type 0
IsEntry plan site key = (to : Text) × Flows plan site key to

-- a walk from an entry of the key ends with the pair (caller, name)
abbrev pub IsReached : Network → Key → Text → Text → Type 0
IsReached plan key caller name =
    (site : Text) × (over : List Text) × IsEntry plan site key
    × IsWalk plan key local site over
    × (last_place local site over ≡ (caller, name))

-- on some walk from an entry the key goes from one node to the other
abbrev pub Goes : Network → Key → Text → Text → Type 0
Goes plan key from to =
    (caller : Text) × IsReached plan key caller from × Sends plan from caller key to

-- a destination of the key that the node has from the caller: the end of a walk, which keeps it
abbrev pub IsDestination : Network → Text → Text → Key → Text → Type 0
IsDestination plan caller name key dest =
    (over : List Text)
    × IsWalk plan key caller name over
    × ((last_place caller name over).1 ≡ dest)
    × Keeps plan dest (last_place caller name over).0 key

-- the class and the transfer syntax of some key that goes over the hop
abbrev pub GoesOver : Network → Text → Text → Text × Syntax → Type 0
GoesOver plan from to pair = (key : Key) × (pair ≡ (key.class, key.syntax)) × Goes plan key from to
