-- The edges of the graph: the hops of a certificate with their numbers of presentation contexts.
use Rattle.std.specs.Prelude.{◌≡◌, ℕ, ◌<◌, ◌==◌, ◌&&◌, ◌↔◌, Bool, List, [], ◌∷◌, count_by, AllPairs}
use Rattle.std.specs.Prelude.{Contains, if◌then◌else◌}
use Rattle.std.specs.Str.{bytes_eq}
use Rattle.dr_base.specs.Texts.{Text}
use Rattle.dr_plan_sound.specs.declared.certificate.Hop.{Hop}
use Rattle.dr_cert_lint.specs.declared.edges.Edge.{Edge}

-- the context is one from the one node to the other
abbrev pub goes_between : Text → Text → Hop → Bool
goes_between a b hop = bytes_eq hop.from a && bytes_eq hop.to b

-- how many contexts there are from the one node to the other
abbrev pub contexts_between : List Hop → Text → Text → ℕ
contexts_between hops a b = count_by (goes_between a b) hops

-- the edge on which the context is
abbrev pub edge_over : List Hop → Hop → Edge
edge_over hops hop =
    record { «from» = hop.from; «to» = hop.to; contexts = contexts_between hops hop.from hop.to }

-- the edge of a hop's first context, and none for the others
abbrev pub edges_at : List Hop → Hop → List Edge
edges_at hops hop = if hop.id == 1 then edge_over hops hop ∷ [] else []

-- some context goes from the one node of the edge to the other, and so many do
abbrev pub IsEdge : List Hop → Edge → Type 0
IsEdge hops edge =
    ((hop : Hop) × Contains hops hop × (hop.from ≡ edge.from) × (hop.to ≡ edge.to))
    × (edge.contexts ≡ contexts_between hops edge.from edge.to)

-- just the edges on which there is a context, each once
pub record AreEdges (hops : List Hop) (edges : List Edge) : Type 0 where
  pub each : (edge : Edge) → Contains edges edge ↔ IsEdge hops edge
  pub apart : AllPairs (λ a b. a.from ≡ b.from → a.to ≡ b.to → ⊥) edges
