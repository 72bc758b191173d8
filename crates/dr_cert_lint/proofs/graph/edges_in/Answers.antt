use Rattle.std.proofs.Common.{◌≡◌, ◌∙◌, sym, ap, subst, List}
use Rattle.std.specs.Prelude.{flat_map}
use Rattle.dr_plan_sound.specs.declared.certificate.Certificate.{Certificate}
use Rattle.dr_plan_sound.specs.declared.certificate.Hop.{Hop}
use Rattle.dr_cert_lint.specs.Edges.{AreEdges, edges_at}
use Rattle.dr_cert_lint.specs.declared.edges.Edge.{Edge}
use Rattle.dr_cert_lint.proofs.Drawn.{are_edges}
use Rattle.dr_cert_lint.proofs.graph.edges_in.Goals as goal

pub returns : goal.returns
returns c =
    let certified = c.args.sealed.now in
    let hops = certified.certificate.hops in
    let same : c.as_slice.result.now ≡ hops = c.as_slice.ensures ∙ ap (λ (it : Certificate). it.hops) c.certificate.ensures.same in
    let is : c.in_ok-edges.edges.items ≡ flat_map (edges_at hops) hops = c.in_ok-edges.ensures ∙ ap (λ (hs : List Hop). flat_map (edges_at hs) hs) same in
    subst (λ (edges : List Edge). AreEdges hops edges) (sym is) (are_edges certified.plan certified.certificate c.certificate.ensures.own)
