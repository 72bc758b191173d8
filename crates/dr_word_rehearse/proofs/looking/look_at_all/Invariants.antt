use Rattle.std.proofs.Common.{◌≡◌, take, map as mapped}
use Rattle.dr_word_rehearse.specs.Rehearsals.{AreLooked, node_of}
use Rattle.dr_word_rehearse.proofs.looking.look_at_all.Given as goal

-- what the nodes so far show
abbrev pub invariant-loop-name : goal.invariant-loop-name
invariant-loop-name g l = (mapped node_of l.all.items ≡ take l.name-index l.fn.names)
    × AreLooked (g.O.Ledgers.opens l.fn.ledgers) g.O.Ledger.Ledger.site g.O.Ledger.Ledger.book g.O.Ledger.Ledger.stands l.fn.folder l.fn.old l.fn.next l.all.items
