use Rattle.std.proofs.Common.{◌-◌, ◌^◌, All, map as mapped}
use Rattle.std.specs.List.{AllByRecursion}
use Rattle.dr_ledger.specs.Replies.{entry_of}
use Rattle.dr_desk.specs.Adoptions.{IsAsItWas}
use Rattle.dr_desk.specs.Paging.{IsOfLineWithin}
use Rattle.dr_desk.proofs.paging.compare_lines.Given as goal

abbrev pub invariant-loop-next : goal.invariant-loop-next
invariant-loop-next g l = record {
  same : IsAsItWas g.L.Ledger.site g.L.Ledger.book g.L.Ledger.bodies g.L.Ledger.stands g.L.Ledger.failed l.fn.ledger l.ledger;
  so_far : g.L.Ledger.stands l.ledger → AllByRecursion (λ p. All (IsOfLineWithin 0 l.from (mapped entry_of (g.L.Ledger.book l.ledger).lines)) p.receipts.items) l.passes;
}

abbrev pub decreases-loop-next : goal.decreases-loop-next
decreases-loop-next g l = 2 ^ 64 - l.from
