use Rattle.std.proofs.Common.{◌∙◌, ap, sym}
use Rattle.std.specs.BTreeSet as sorted
use Rattle.dr_ledger.specs.Pairs.{pair_cmp}
use Rattle.dr_ledger_memory.proofs.Lookups.{arrival_at}
use Rattle.dr_ledger_memory.proofs.ledger.MemoryLedger.has_brought.Goals as goal

pub returns : goal.returns
returns c =
    let p = c.args.self.now.parts in
    c.contains-has.ensures ∙ (ap (sorted.contains pair_cmp p.arrivals) c.in_ok-arrival.ensures ∙ sym (arrival_at p (c.args.caller.now, c.args.uid.now)))
