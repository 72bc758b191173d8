use Rattle.dr_ledger_memory.proofs.Trees.{put_at}
use Rattle.std.proofs.Common.{sym}
use Rattle.dr_ledger_memory.proofs.parts.take_known.Goals as goal

pub returns-in-Some-clause-taken : goal.returns-in-Some-clause-taken
returns-in-Some-clause-taken c =
    let w = c.take.new.self in
    let n = c.get_mut.follows.lender w in
    (c.in-Some.entry.now, w, sym c.in-Some.ensures.value, c.take.ensures, put_at c.args.held.now n c.args.uid.now w ((c.get_mut.follows.holds w).3 c.requires.known).0)
