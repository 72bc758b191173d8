use Rattle.std.proofs.Common.{ap}
use Rattle.dr_ledger_balance.specs.Spelling.{item_then}
use Rattle.dr_ledger_balance.proofs.Added.{all_added, one_added}
use Rattle.dr_ledger_balance.specs.Adding.{values_of}
use Rattle.dr_ledger_balance.proofs.writing.put_items.Goals as goal

pub loop-uid-preserved : goal.loop-uid-preserved
loop-uid-preserved c =
    one_added item_then c.args.out.now.items (values_of c.args.items.now.entries) c.loop-uid.out.items c.put_item.new.out.items c.in-Some.item.now (values_of c.loop-uid._uid-iterator) (values_of c.next.new.self) c.loop-uid.invariant (ap values_of c.in-Some.ensures.steps) c.in_ok-put_item.ensures

pub returns-clause-adds : goal.returns-clause-adds
returns-clause-adds c = all_added item_then c.args.out.now.items (values_of c.args.items.now.entries) c.loop-uid.out.items (values_of c.loop-uid._uid-iterator) c.loop-uid.invariant (ap values_of c.in-None.ensures.steps.0)
