use Rattle.std.proofs.Common.{◌≡◌, ◌<◌, ◌∙◌, sym, ap, subst, List, length, get_or, take, arith}
use Rattle.std.proofs.lemmas.List.{take_all}
use Rattle.dr_plan_model.specs.Networks.{Network}
use Rattle.dr_plan_model.specs.declared.plan.Node.{Node}
use Rattle.dr_cert_lint.specs.Graphs.{IsVertexRow}
use Rattle.dr_cert_lint.proofs.Numbered.{all_added, none_added, one_added}
use Rattle.dr_cert_lint.proofs.graph.add_vertices.Goals as goal

pub loop-node-init : goal.loop-node-init
loop-node-init c = none_added (λ number. IsVertexRow c.args.sealed.now.plan) c.args.out.now.items

pub add_vertex-requires : goal.add_vertex-requires
add_vertex-requires c =
    let nodes = c.args.sealed.now.plan.nodes in
    let same : c.nodes-node-items.result.now ≡ nodes = c.nodes-node-items.ensures.same ∙ ap (λ (p : Network). p.nodes) c.plan.ensures.same in
    let lt : c.loop-node.node-index < length nodes = subst (λ (xs : List Node). c.loop-node.node-index < length xs) same c.loop-node-test.true in
    let at : c.node-item.result ≡ get_or nodes c.loop-node.node-index c.node-item.result = subst (λ (xs : List Node). c.node-item.result ≡ get_or xs c.loop-node.node-index c.node-item.result) same c.node-item.is in
    (c.loop-node.node-index, lt, sym at)

pub loop-node-preserved : goal.loop-node-preserved
loop-node-preserved c =
    let nodes = c.args.sealed.now.plan.nodes in
    let same : c.nodes-node-items.result.now ≡ nodes = c.nodes-node-items.ensures.same ∙ ap (λ (p : Network). p.nodes) c.plan.ensures.same in
    let lt : c.loop-node.node-index < length nodes = subst (λ (xs : List Node). c.loop-node.node-index < length xs) same c.loop-node-test.true in
    let at : c.node-item.result ≡ get_or nodes c.loop-node.node-index c.node-item.result = subst (λ (xs : List Node). c.node-item.result ≡ get_or xs c.loop-node.node-index c.node-item.result) same c.node-item.is in
    one_added (λ number. IsVertexRow c.args.sealed.now.plan) nodes c.loop-node.node-index c.node-item.result c.args.out.now.items c.loop-node.out.items c.add_vertex.new.out.items lt at c.loop-node.invariant c.in_ok-add_vertex.ensures

pub returns : goal.returns
returns c =
    let nodes = c.args.sealed.now.plan.nodes in
    let same : c.nodes-node-items.result.now ≡ nodes = c.nodes-node-items.ensures.same ∙ ap (λ (p : Network). p.nodes) c.plan.ensures.same in
    let long : length c.nodes-node-items.result.now ≡ length nodes = ap length same in
    let all : take c.loop-node.node-index nodes ≡ nodes = take_all _ _ (omega arith) in
    all_added (λ number. IsVertexRow c.args.sealed.now.plan) nodes c.loop-node.node-index c.args.out.now.items c.loop-node.out.items all c.loop-node.invariant
