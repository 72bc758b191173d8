use Rattle.std.proofs.Common.{◌≡◌}
use Rattle.dr_word_list.proofs.long.put_all.Given as goal

abbrev pub invariant-loop-one : goal.invariant-loop-one
invariant-loop-one g l =
    (g.L.Ledger.stands l.ledger → g.L.Ledger.stands l.initial.ledger)
    × (g.L.Ledger.stands l.ledger → g.L.Ledger.book l.ledger ≡ g.L.Ledger.book l.initial.ledger)
