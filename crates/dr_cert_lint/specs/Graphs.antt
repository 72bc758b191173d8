-- The graph of a network, in the language of Graphviz.
use Rattle.std.specs.Prelude.{◌≡◌, ◌↔◌, Bool, List, [], ◌∷◌, ◌++◌, codes, decimal, flat_map}
use Rattle.std.specs.Prelude.{if◌then◌else◌, IsTrue}
use Rattle.std.specs.Borrow.{Bor}
use Rattle.dr_base.specs.Texts.{Text}
use Rattle.dr_route.specs.Routes.{KeepsBy}
use Rattle.dr_route.specs.declared.key.Key.{Key}
use Rattle.dr_plan_model.specs.Networks.{Network}
use Rattle.dr_plan_model.specs.Walks.{IsReached}
use Rattle.dr_plan_model.specs.declared.listens.Listens.{Listens}
use Rattle.dr_plan_model.specs.declared.listens.Listens.TheVariants.{Nowhere, At}
use Rattle.dr_plan_model.specs.declared.plan.Node.{Node}
use Rattle.dr_plan_sound.specs.declared.certificate.Certificate.{Certificate}
use Rattle.dr_cert_lint.specs.Bringing.{EntersAt}
use Rattle.dr_cert_lint.specs.Edges.{AreEdges}
use Rattle.dr_base_quoted.specs.Escaping.{escaped, in_quotes}
use Rattle.dr_cert_lint.specs.Texts.{AreRows}
use Rattle.dr_cert_lint.specs.declared.edges.Edge.{Edge}

-- the node keeps something that comes there
abbrev pub KeepsSome : Network → Node → Type 0
KeepsSome plan node =
    (key : Key) × (caller : Text)
    × IsReached plan key caller node.name
    × KeepsBy node.rules caller key

-- what stands before a label
abbrev pub label_start : Text
label_start = codes " [label=" ++ (34 ∷ [])

-- the end of a row
abbrev pub row_end : Text
row_end = codes "];" ++ (10 ∷ [])

-- where a node listens: the address by which others reach it, or that it only calls
abbrev pub place_text : Listens → Text
place_text Nowhere = codes "only calls"
place_text (At address bind) = escaped address

-- the row of a node: title and where it listens, round corners where instances enter, and a double
-- line where they are kept
abbrev pub vertex_row : Node → Bool → Bool → Text
vertex_row node enters keeps =
    codes "  " ++ in_quotes node.name ++ label_start ++ escaped node.name ++ (92 ∷ codes "n")
    ++ place_text node.listens ++ (34 ∷ []) ++ (if enters then codes ", style=rounded" else [])
    ++ (if keeps then codes ", peripheries=2" else []) ++ row_end

-- the row of a node of the plan
abbrev pub IsVertexRow : Network → Node → Text → Type 0
IsVertexRow plan node row =
    (enters : Bool) × (keeps : Bool)
    × (IsTrue enters ↔ EntersAt plan.flows node.name)
    × (IsTrue keeps ↔ KeepsSome plan node)
    × (row ≡ vertex_row node enters keeps)

-- the row of an edge: from where to where, with the number of its contexts
abbrev pub edge_row : Edge → Text
edge_row edge =
    codes "  " ++ in_quotes edge.from ++ codes " -> " ++ in_quotes edge.to ++ label_start
    ++ decimal edge.contexts ++ (34 ∷ row_end)

-- the first rows
abbrev pub head : Text
head =
    codes "digraph network {" ++ (10 ∷ codes "  rankdir=LR;") ++ (10 ∷ codes "  node [shape=box];")
    ++ (10 ∷ [])

-- the last row
abbrev pub foot : Text
foot = codes "}" ++ (10 ∷ [])

-- The text of the graph: a row for each node, in the order of the plan, and for each hop of the
-- certificate, in its order, one row with the number of its contexts.
pub record IsGraphText (plan : Network) (certificate : Certificate) (text : Text) : Type 0 where
  pub vertices : Text
  pub each_node : AreRows (λ number. IsVertexRow plan) 1 plan.nodes vertices
  pub edges : List Edge
  pub are_edges : AreEdges certificate.hops edges
  pub printed : text ≡ head ++ vertices ++ flat_map edge_row edges ++ foot
