use Rattle.std.proofs.Common.{◌≡◌, ◌∙◌, ap, ℕ, List, ◌++◌}
use Rattle.std.specs.Prelude.{flat_map}
use Rattle.dr_cert_lint.specs.Graphs.{edge_row, foot}
use Rattle.dr_cert_lint.specs.declared.edges.Edge.{Edge}
use Rattle.dr_cert_lint.proofs.graph.graph_text.Goals as goal

pub returns : goal.returns
returns c =
    let rows = c.in_ok-add_vertices.ensures in
    let edges = c.in_ok-edges.edges.items in
    let begun = rows.2 ∙ ap (λ (xs : List ℕ). xs ++ rows.0) c.in_ok-out.ensures.items in
    let drawn = c.in_ok-add_edge_rows.ensures ∙ (ap (λ (es : List Edge). c.add_vertices.new.out.items ++ flat_map edge_row es) c.as_slice.ensures.value ∙ ap (λ (xs : List ℕ). xs ++ flat_map edge_row edges) begun) in
    record {
      vertices = rows.0;
      each_node = rows.1;
      edges = edges;
      are_edges = c.in_ok-edges.ensures;
      printed = c.from_vec.ensures ∙ (c.in_ok-extend_from_slice.ensures.items ∙ ap (λ (xs : List ℕ). xs ++ foot) drawn);
    }
