use Rattle.std.proofs.Common.{◌≡◌, ◌+◌, ◌++◌, ◌∷◌, [], arith, List, subst, sym, take}
use Rattle.std.proofs.lemmas.List.{take_all, take_more}
use Rattle.dr_world_audit.specs.declared.audit.NodeJournal.{NodeJournal}
use Rattle.dr_world_audit.specs.Sites.{AreRead}
use Rattle.dr_world_audit.proofs.Stopping.{all_stop, among_at, none_read, read_more}
use Rattle.dr_world_audit.proofs.audit.read_all.Goals as goal

pub loop-node-init : goal.loop-node-init
loop-node-init c = none_read c.args.sealed.now.plan c.args.ours.now.keys c.args.trail.now

pub loop-node-preserved : goal.loop-node-preserved
loop-node-preserved c =
    let plan = c.args.sealed.now.plan in
    let keys = c.args.ours.now.keys in
    let all = c.args.nodes.now in
    let i = c.loop-node.node-index in
    let one = c.node-item.result in
    let e = take_more all i one c.loop-node-test.true in
    let more : take (i + 1) all ≡ take i all ++ one ∷ [] = rw (← c.node-item.is) at e in
    let P : List NodeJournal → Type 0 = λ ns. AreRead plan keys ns c.args.trail.now c.read_node.new.trail in
    subst P (sym more) (read_more plan keys (take i all) one c.args.trail.now c.loop-node.trail c.read_node.new.trail c.loop-node.invariant c.in-Ok.ensures)

pub returns : goal.returns
returns c =
    let P : List NodeJournal → Type 0 = λ ns. AreRead c.args.sealed.now.plan c.args.ours.now.keys ns c.args.trail.now c.loop-node.trail in
    subst P (take_all c.loop-node.node-index c.args.nodes.now (omega (arith, c.loop-node-test.false))) c.loop-node.invariant

pub returns-in-Err : goal.returns-in-Err
returns-in-Err c =
    all_stop c.args.sealed.now.plan c.args.ours.now.keys c.args.nodes.now c.node-item.result (among_at c.args.nodes.now c.loop-node.node-index c.node-item.result c.loop-node-test.true c.node-item.is)
    c.args.trail.now c.loop-node.trail c.read_node.new.trail c.in-Err.stop c.in-Err.ensures
