use Rattle.std.proofs.Common.{[], ◌∷◌, ◌++◌}
use Rattle.std.specs.Prelude.{codes, decimal}
use Rattle.dr_cert_lint.specs.Graphs.{label_start, row_end}
use Rattle.dr_base_quoted.specs.Escaping.{in_quotes}
use Rattle.dr_cert_lint.proofs.Chained.{chained}
use Rattle.dr_cert_lint.proofs.graph.add_edge_row.Goals as goal

pub returns : goal.returns
returns c =
    let old = c.args.out.now.items in
    let edge = c.args.edge.now in
    chained old (codes "  " ++ in_quotes edge.from ++ codes " -> " ++ in_quotes edge.to ++ label_start ++ decimal edge.contexts) (34 ∷ row_end) c.add_decimal.new.out.items c.extend_from_slice-4.new.self.items
    (chained old (codes "  " ++ in_quotes edge.from ++ codes " -> " ++ in_quotes edge.to ++ label_start) (decimal edge.contexts) c.extend_from_slice-3.new.self.items c.add_decimal.new.out.items
    (chained old (codes "  " ++ in_quotes edge.from ++ codes " -> " ++ in_quotes edge.to) (label_start) c.put_in_quotes-2.new.out.items c.extend_from_slice-3.new.self.items
    (chained old (codes "  " ++ in_quotes edge.from ++ codes " -> ") (in_quotes edge.to) c.extend_from_slice-2.new.self.items c.put_in_quotes-2.new.out.items
    (chained old (codes "  " ++ in_quotes edge.from) (codes " -> ") c.put_in_quotes.new.out.items c.extend_from_slice-2.new.self.items
    (chained old (codes "  ") (in_quotes edge.from) c.extend_from_slice.new.self.items c.put_in_quotes.new.out.items
    c.in_ok-extend_from_slice.ensures.items c.in_ok-put_in_quotes.ensures) c.in_ok-extend_from_slice-2.ensures.items) c.in_ok-put_in_quotes-2.ensures) c.in_ok-extend_from_slice-3.ensures.items) c.in_ok-add_decimal.ensures) c.in_ok-extend_from_slice-4.ensures.items
