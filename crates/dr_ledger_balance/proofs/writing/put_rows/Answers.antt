use Rattle.dr_ledger_balance.specs.Spelling.{row_then}
use Rattle.dr_ledger_balance.proofs.Added.{all_added, one_added}
use Rattle.dr_ledger_balance.proofs.writing.put_rows.Goals as goal

pub loop-at-preserved : goal.loop-at-preserved
loop-at-preserved c =
    one_added row_then c.args.out.now.items c.args.rows.now.entries c.loop-at.out.items c.put_row.new.out.items (c.in-Some.at.now, c.in-Some.progress.now) c.loop-at.at-iterator c.next.new.self c.loop-at.invariant c.in-Some.ensures.steps c.in_ok-put_row.ensures

pub returns-clause-adds : goal.returns-clause-adds
returns-clause-adds c = all_added row_then c.args.out.now.items c.args.rows.now.entries c.loop-at.out.items c.loop-at.at-iterator c.loop-at.invariant c.in-None.ensures.steps.0
