use Rattle.std.proofs.Common.{take}
use Rattle.dr_word_list.specs.Requeuings.{RequeuesEach}
use Rattle.dr_word_list.proofs.requeuing_all.requeue_each.Given as goal

abbrev pub invariant-loop-uid : goal.invariant-loop-uid
invariant-loop-uid g l =
    (g.L.Ledger.stands l.ledger → g.L.Ledger.stands l.initial.ledger)
    × (g.L.Ledger.stands l.ledger → RequeuesEach (take l.uid-index l.fn.uids) l.fn.dest (g.L.Ledger.book l.initial.ledger) (g.L.Ledger.book l.ledger))
