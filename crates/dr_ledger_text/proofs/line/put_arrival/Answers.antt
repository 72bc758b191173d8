use Rattle.std.specs.Prelude.{codes}
use Rattle.dr_ledger_text.specs.Lines.{arrived_part, goals_part}
use Rattle.dr_ledger_text.proofs.Chained.{chained}
use Rattle.dr_ledger_text.proofs.line.put_arrival.Goals as goal

pub returns : goal.returns
returns c =
    chained c.args.out.now.items (arrived_part (codes "arrival") c.args.caller.now c.args.instance.now) (goals_part c.args.to.now c.args.keep) c.put_arrived.new.out.items c.put_goals.new.out.items
    c.in_ok-put_arrived.ensures c.in_ok-put_goals.ensures
