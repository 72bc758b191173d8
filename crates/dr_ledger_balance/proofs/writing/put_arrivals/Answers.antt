use Rattle.dr_ledger_balance.specs.Spelling.{arrival_then}
use Rattle.dr_ledger_balance.proofs.Added.{all_added, one_added}
use Rattle.dr_ledger_balance.proofs.writing.put_arrivals.Goals as goal

pub loop-at-preserved : goal.loop-at-preserved
loop-at-preserved c =
    one_added arrival_then c.args.out.now.items c.args.arrivals.now.keys c.loop-at.out.items c.put_arrival.new.out.items c.in-Some.at.now c.loop-at.at-iterator c.next.new.self c.loop-at.invariant c.in-Some.ensures.steps c.in_ok-put_arrival.ensures

pub returns-clause-adds : goal.returns-clause-adds
returns-clause-adds c = all_added arrival_then c.args.out.now.items c.args.arrivals.now.keys c.loop-at.out.items c.loop-at.at-iterator c.loop-at.invariant c.in-None.ensures.steps.0
