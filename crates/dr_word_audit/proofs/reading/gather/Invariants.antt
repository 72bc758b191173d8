use Rattle.std.proofs.Common.{◌≡◌, take}
use Rattle.dr_world_audit.specs.Sites.{names}
use Rattle.dr_word_audit.specs.Audits.{AreSeen}
use Rattle.dr_word_audit.proofs.reading.gather.Given as goal

-- the ledgers of the nodes so far were read
abbrev pub invariant-loop-name : goal.invariant-loop-name
invariant-loop-name g l = (names l.all.journals.items ≡ take l.name-index l.fn.names)
    × AreSeen (g.O.Ledgers.opens l.fn.ledgers) g.O.Ledger.Ledger.site g.O.Ledger.Ledger.book g.O.Ledger.Ledger.stands l.fn.folder l.fn.sealed l.fn.others l.all.journals.items l.all.told.items
