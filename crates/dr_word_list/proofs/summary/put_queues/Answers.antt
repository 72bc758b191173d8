use Rattle.std.proofs.Common.{◌≡◌, take, arith}
use Rattle.std.proofs.lemmas.List.{take_all}
use Rattle.dr_word_list.proofs.Queueing.{all_queued, none_queued, one_queued}
use Rattle.dr_word_list.proofs.summary.put_queues.Goals as goal

pub loop-hop-init : goal.loop-hop-init
loop-hop-init c = none_queued c.args.rows.now c.args.out.now.items

pub loop-hop-preserved : goal.loop-hop-preserved
loop-hop-preserved c =
    one_queued c.args.rows.now c.args.hops.now c.loop-hop.hop-index c.hop-item.result c.args.out.now.items c.loop-hop.out.items c.put_queue.new.out.items c.loop-hop-test.true c.hop-item.is c.loop-hop.invariant c.in_ok-put_queue.ensures

pub returns : goal.returns
returns c =
    let hops = c.args.hops.now in
    let all : take c.loop-hop.hop-index hops ≡ hops = take_all _ _ (omega arith) in
    all_queued c.args.rows.now hops c.loop-hop.hop-index c.args.out.now.items c.loop-hop.out.items all c.loop-hop.invariant
