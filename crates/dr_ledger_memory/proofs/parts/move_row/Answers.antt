use Rattle.std.proofs.Common.{sym}
use Rattle.dr_ledger_memory.proofs.Trees.{has_entry, put_at}
use Rattle.dr_ledger_memory.specs.Changes.{at}
use Rattle.dr_ledger_memory.proofs.parts.move_row.Goals as goal

pub returns-in-Some-clause-moved : goal.returns-in-Some-clause-moved
returns-in-Some-clause-moved c =
    let w = c.move_on.new.self in
    let n = c.get_mut.follows.lender w in (
      c.in-Some.entry.now,
      w,
      sym c.in-Some.ensures.value,
      c.move_on.ensures,
      put_at c.args.held.now n c.args.uid.now w ((c.get_mut.follows.holds w).3 (has_entry (at c.args.held.now c.args.uid.now) c.args.dest.now c.requires)).0,
    )
