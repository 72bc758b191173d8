use Rattle.std.proofs.Common.{◌≡◌, All, map, take}
use Rattle.dr_word_adopt.specs.Beginnings.{OpensThere}
use Rattle.dr_word_adopt.specs.Changes.{IsReady, name_by}
use Rattle.dr_word_adopt.proofs.looking.look_at_all.Given as goal

-- the ledgers of the nodes so far, each of which may be changed
abbrev pub invariant-loop-name : goal.invariant-loop-name
invariant-loop-name g l = (map (name_by g.O.Ledger.Ledger.site) l.all.items ≡ take l.name-index l.fn.names)
    × All (IsReady (OpensThere (g.O.Ledgers.opens l.fn.ledgers) (g.O.ShowsFiles.shows l.fn.ledgers)) g.O.Ledger.Ledger.site g.O.Ledger.Ledger.book g.O.Ledger.Ledger.stands l.fn.folder l.fn.old l.fn.next) l.all.items
