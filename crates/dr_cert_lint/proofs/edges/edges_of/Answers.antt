use Rattle.std.proofs.Common.{sym, ap, ◌∙◌, List, ◌++◌}
use Rattle.dr_cert_lint.specs.Edges.{edges_at}
use Rattle.dr_cert_lint.specs.declared.edges.Edge.{Edge}
use Rattle.dr_cert_lint.proofs.Drawn.{flat_map_more}
use Rattle.dr_cert_lint.proofs.edges.edges_of.Goals as goal

pub loop-hop-preserved : goal.loop-hop-preserved
loop-hop-preserved c =
    let hops = c.args.hops.now in
    c.in_ok-add_edge.ensures ∙ (ap (λ (edges : List Edge). edges ++ edges_at hops c.hop-item.result) c.loop-hop.invariant
    ∙ sym (flat_map_more (edges_at hops) hops c.loop-hop.hop-index c.hop-item.result c.loop-hop-test.true c.hop-item.is))
