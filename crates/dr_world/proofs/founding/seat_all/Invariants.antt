use Rattle.std.proofs.Common.{◌≡◌, ◌+◌, ◌++◌, List, length, take}
use Rattle.std.specs.Vec.Iter.{into_iter_items}
use Rattle.dr_world.specs.Founding.{AreFounded}
use Rattle.dr_world.proofs.founding.seat_all.Given as goal

-- the nodes so far, as many ledgers left as names, and those that are seated
abbrev pub invariant-loop-ledger : goal.invariant-loop-ledger
invariant-loop-ledger g l =
    AreFounded l.fn.sealed.plan l.fn.sealed.certificate (take l.place l.fn.names) l.nodes × (l.place + length (into_iter_items l.ledger-iterator) ≡ length l.fn.names)
    × ((seated : List g.row.L.Denot) × (l.fn.ledgers.items ≡ seated ++ into_iter_items l.ledger-iterator) × (length seated ≡ l.place))
