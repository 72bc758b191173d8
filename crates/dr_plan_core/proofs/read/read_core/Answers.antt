use Rattle.dr_plan_core.proofs.PlanForm.{well_formed}
use Rattle.std.proofs.lemmas.Result.{err_from_is_err_and}
use Rattle.dr_plan_core.proofs.Refusals.{no_nodes, no_flows, some_written, refused}
use Rattle.dr_plan_core.proofs.read.read_core.Goals as goal

pub returns-in_err-pass : goal.returns-in_err-pass
returns-in_err-pass c =
    let p = err_from_is_err_and c.from_residual-in_err-pass.result c.from_residual-in_err-pass.ensures.1 in
    rw (p.1, p.2) (refused c.args.text.now c.in_ok-written.written c.in_err-pass.field-0.0 c.in_ok-written.ensures c.in_err-pass.ensures)

pub returns-in_err-nodes : goal.returns-in_err-nodes
returns-in_err-nodes c =
    let p = err_from_is_err_and c.from_residual-in_err-nodes.result c.from_residual-in_err-nodes.ensures.1 in
    rw (p.1, p.2) (no_nodes c.args.text.now c.in_ok-written.written c.in_ok-written.ensures c.in_err-nodes.ensures.memory)

pub returns-in_err-flows : goal.returns-in_err-flows
returns-in_err-flows c =
    let p = err_from_is_err_and c.from_residual-in_err-flows.result c.from_residual-in_err-flows.ensures.1 in
    rw (p.1, p.2) (no_flows c.args.text.now c.in_ok-written.written c.in_ok-written.ensures c.in_err-flows.ensures.memory)

pub returns-in_err-plan : goal.returns-in_err-plan
returns-in_err-plan c =
    let p = err_from_is_err_and c.from_residual-in_err-plan.result c.from_residual-in_err-plan.ensures.1 in
    rw (p.1, p.2) (no_flows c.args.text.now c.in_ok-written.written c.in_ok-written.ensures (some_written c.in_ok-flows.flows _ c.in_ok-flows.ensures.flows c.in_err-plan.ensures.memory))

pub new-requires : goal.new-requires
new-requires c =
    let written = c.in_ok-written.ensures in
    let nodes = c.in_ok-nodes.ensures.nodes in
    let flows = c.in_ok-flows.ensures.flows in
    well_formed c.in_ok-written.written.format c.in_ok-nodes.nodes c.in_ok-flows.flows written.0 (rw (nodes, flows) written.2) (rw (nodes, flows) c.in_ok-pass.ensures)

pub returns : goal.returns
returns c =
    let written = c.in_ok-written.ensures in
    let nodes = c.in_ok-nodes.ensures.nodes in
    let flows = c.in_ok-flows.ensures.flows in
    rw c.in_ok-plan.ensures.plan ((written.0, written.1, rw (nodes, flows) written.2), rw (nodes, flows) c.in_ok-pass.ensures, c.digest.ensures)
