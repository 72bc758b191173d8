use Rattle.std.proofs.Common.{◌≡◌, ◌+◌, ◌++◌, List, length, take}
use Rattle.std.specs.Vec.Iter.{into_iter_items}
use Rattle.dr_world.specs.Adopted.{AllJoin}
use Rattle.dr_world.proofs.world.adopting.join_all.Given as goal

-- the nodes so far, as many ledgers left as names, and those that are seated
abbrev pub invariant-loop-ledger : goal.invariant-loop-ledger
invariant-loop-ledger g l =
    AllJoin l.fn.next.plan l.fn.next.certificate (take l.place l.fn.names) l.fn.nodes l.nodes
    × (l.place + length (into_iter_items l.ledger-iterator) ≡ length l.fn.names)
    × ((seated : List g.row.L.Denot)
    × (l.fn.ledgers.items ≡ seated ++ into_iter_items l.ledger-iterator)
    × (length seated ≡ l.place))
