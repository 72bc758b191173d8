use Rattle.dr_ledger_balance.specs.Spelling.{kept_then}
use Rattle.dr_ledger_balance.proofs.Added.{all_added, one_added}
use Rattle.dr_ledger_balance.proofs.writing.put_all_kept.Goals as goal

pub loop-uid-preserved : goal.loop-uid-preserved
loop-uid-preserved c =
    one_added kept_then c.args.out.now.items c.args.kept.now.keys c.loop-uid.out.items c.put_kept.new.out.items c.in-Some.uid.now c.loop-uid.uid-iterator c.next.new.self c.loop-uid.invariant c.in-Some.ensures.steps c.in_ok-put_kept.ensures

pub returns-clause-adds : goal.returns-clause-adds
returns-clause-adds c = all_added kept_then c.args.out.now.items c.args.kept.now.keys c.loop-uid.out.items c.loop-uid.uid-iterator c.loop-uid.invariant c.in-None.ensures.steps.0
