use Rattle.dr_cert_trace.proofs.Spreading.{all_nodes, all_keeps}
use Rattle.dr_cert_trace.proofs.reaching.reach_within.Goals as goal

pub returns : goal.returns
returns c =
    let plan = c.args.plan.now in
    let site = c.args.site.now in
    let key = c.args.key.now in
    let nodes = all_nodes plan site key c.args.rank c.requires.rank c.in_ok-nodes.nodes c.in_ok-nodes.keeps c.in_ok-nodes.ensures in
    let keeps = all_keeps plan site key c.args.rank c.requires.rank c.in_ok-nodes.nodes c.in_ok-nodes.keeps c.in_ok-nodes.ensures in
    let same_nodes = c.in_ok-nodes-2.ensures.same in
    let same_keeps = c.in_ok-keeps.ensures.same in
    record {
      enters = c.requires.enters;
      nodes = λ name. (λ h. (nodes name).0 ((same_nodes name).0 h), λ h. (same_nodes name).1 ((nodes name).1 h));
      nodes_ordered = c.in_ok-nodes-2.ensures.ordered;
      keeps = λ name. (λ h. (keeps name).0 ((same_keeps name).0 h), λ h. (same_keeps name).1 ((keeps name).1 h));
      keeps_ordered = c.in_ok-keeps.ensures.ordered;
    }
