-- Where a node sends.
use Rattle.std.specs.Prelude.{Bool, List, [], ◌∷◌, Option, None, Some, flat_map, if◌then◌else◌}
use Rattle.std.specs.List.{list_any}
use Rattle.dr_base.specs.Texts.{Text}
use Rattle.dr_plan_model.specs.Listening.{address_of}
use Rattle.dr_plan_model.specs.declared.plan.Node.{Node}
use Rattle.dr_site.specs.Parts.{Part, ends_at}
use Rattle.dr_run_open.specs.declared.hops.NextHop.{NextHop}

-- a hop of the site ends at the node of that name
abbrev pub is_reached : Part → Text → Bool
is_reached site name = list_any (ends_at name) site.hops

-- the hop to the node of that name and address, before anybody has looked for a row
abbrev pub first_look : Text → Text → NextHop
first_look name address = record { dest = name; address = address; due = 0 }

-- the hop to the node of that name, where the site reaches it and it has that address
abbrev pub hop_by : Part → Text → Option Text → List NextHop
hop_by site name None = []
hop_by site name (Some address) = if is_reached site name then first_look name address ∷ [] else []

-- the hop to the node
abbrev pub hop_at : Part → Node → List NextHop
hop_at site node = hop_by site node.name (address_of node.listens)

-- the hops of the site to those of the nodes that it reaches, in their order
abbrev pub hops_from : Part → List Node → List NextHop
hops_from site nodes = flat_map (hop_at site) nodes
