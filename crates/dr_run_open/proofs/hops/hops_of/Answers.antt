use Rattle.std.proofs.Common.{sym, ◌∙◌, ap, ◌++◌, List}
use Rattle.dr_run_open.specs.Hops.{hop_at}
use Rattle.dr_run_open.specs.declared.hops.NextHop.{NextHop}
use Rattle.dr_run_open.proofs.Hopping.{one_more}
use Rattle.dr_run_open.proofs.hops.hops_of.Goals as goal

pub loop-node-preserved : goal.loop-node-preserved
loop-node-preserved c =
    let nodes = c.nodes-node-items.ensures.same in
    c.in_ok-add_hop.ensures ∙ (ap (λ (hops : List NextHop). hops ++ hop_at c.args.site.now c.node-item.result) c.loop-node.invariant
    ∙ sym (one_more c.args.site.now c.args.plan.now.nodes c.loop-node.node-index c.node-item.result (rw nodes at c.loop-node-test.true) (rw nodes at c.node-item.is)))
