use Rattle.std.proofs.Common.{[], ◌∷◌, ◌++◌}
use Rattle.std.specs.Prelude.{codes, if◌then◌else◌}
use Rattle.dr_cert_lint.specs.Graphs.{label_start, place_text, row_end}
use Rattle.dr_base_quoted.specs.Escaping.{escaped, in_quotes}
use Rattle.dr_cert_lint.proofs.Chained.{chained}
use Rattle.dr_cert_lint.proofs.graph.add_vertex_row.Goals as goal

pub returns : goal.returns
returns c =
    let old = c.args.out.now.items in
    let node = c.args.node.now in
    chained old (codes "  " ++ in_quotes node.name ++ label_start ++ escaped node.name ++ 92 ∷ codes "n" ++ place_text node.listens ++ 34 ∷ [] ++ (if c.args.enters then codes ", style=rounded" else []) ++ (if c.args.keeps then codes ", peripheries=2" else [])) (row_end) c.add_if-2.new.out.items c.extend_from_slice-5.new.self.items
    (chained old (codes "  " ++ in_quotes node.name ++ label_start ++ escaped node.name ++ 92 ∷ codes "n" ++ place_text node.listens ++ 34 ∷ [] ++ (if c.args.enters then codes ", style=rounded" else [])) ((if c.args.keeps then codes ", peripheries=2" else [])) c.add_if.new.out.items c.add_if-2.new.out.items
    (chained old (codes "  " ++ in_quotes node.name ++ label_start ++ escaped node.name ++ 92 ∷ codes "n" ++ place_text node.listens ++ 34 ∷ []) ((if c.args.enters then codes ", style=rounded" else [])) c.extend_from_slice-4.new.self.items c.add_if.new.out.items
    (chained old (codes "  " ++ in_quotes node.name ++ label_start ++ escaped node.name ++ 92 ∷ codes "n" ++ place_text node.listens) (34 ∷ []) c.put_place.new.out.items c.extend_from_slice-4.new.self.items
    (chained old (codes "  " ++ in_quotes node.name ++ label_start ++ escaped node.name ++ 92 ∷ codes "n") (place_text node.listens) c.extend_from_slice-3.new.self.items c.put_place.new.out.items
    (chained old (codes "  " ++ in_quotes node.name ++ label_start ++ escaped node.name) (92 ∷ codes "n") c.put_escaped.new.out.items c.extend_from_slice-3.new.self.items
    (chained old (codes "  " ++ in_quotes node.name ++ label_start) (escaped node.name) c.extend_from_slice-2.new.self.items c.put_escaped.new.out.items
    (chained old (codes "  " ++ in_quotes node.name) (label_start) c.put_in_quotes.new.out.items c.extend_from_slice-2.new.self.items
    (chained old (codes "  ") (in_quotes node.name) c.extend_from_slice.new.self.items c.put_in_quotes.new.out.items
    c.in_ok-extend_from_slice.ensures.items c.in_ok-put_in_quotes.ensures) c.in_ok-extend_from_slice-2.ensures.items) c.in_ok-put_escaped.ensures) c.in_ok-extend_from_slice-3.ensures.items) c.in_ok-put_place.ensures) c.in_ok-extend_from_slice-4.ensures.items) c.in_ok-add_if.ensures) c.in_ok-add_if-2.ensures) c.in_ok-extend_from_slice-5.ensures.items
