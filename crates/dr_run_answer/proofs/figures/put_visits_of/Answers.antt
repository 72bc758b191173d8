use Rattle.std.proofs.Common.{◌++◌}
use Rattle.std.specs.Prelude.{codes}
use Rattle.dr_run_answer.specs.Answers.{visits_figure}
use Rattle.dr_run_answer.proofs.Chained.{chained}
use Rattle.dr_run_answer.proofs.figures.put_visits_of.Goals as goal

pub returns : goal.returns
returns c =
    let old = c.args.out.now.items in
    let queue = c.args.queue.now in
    let p0 = visits_figure queue.dest.now (codes "released") queue.visits.released in
    let p1 = visits_figure queue.dest.now (codes "rejected") queue.visits.rejected in
    let p2 = visits_figure queue.dest.now (codes "aborted") queue.visits.aborted in
    let p3 = visits_figure queue.dest.now (codes "closed") queue.visits.closed in
    let p4 = visits_figure queue.dest.now (codes "unreached") queue.visits.unreached in
    let p5 = visits_figure queue.dest.now (codes "failed") queue.visits.failed in
    let e1 = chained old (p0) p1 c.put_came.new.out.items c.put_came-2.new.out.items
    c.in_ok-put_came.ensures c.in_ok-put_came-2.ensures in
    let e2 = chained old (p0 ++ p1) p2 c.put_came-2.new.out.items c.put_came-3.new.out.items
    e1 c.in_ok-put_came-3.ensures in
    let e3 = chained old (p0 ++ p1 ++ p2) p3 c.put_came-3.new.out.items c.put_came-4.new.out.items
    e2 c.in_ok-put_came-4.ensures in
    let e4 = chained old (p0 ++ p1 ++ p2 ++ p3) p4 c.put_came-4.new.out.items c.put_came-5.new.out.items
    e3 c.in_ok-put_came-5.ensures in
    chained old (p0 ++ p1 ++ p2 ++ p3 ++ p4) p5 c.put_came-5.new.out.items c.put_came-6.new.out.items
    e4 c.in_ok-put_came-6.ensures
