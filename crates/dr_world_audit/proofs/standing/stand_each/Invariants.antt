use Rattle.std.proofs.Common.{Contains, take}
use Rattle.dr_ledger.specs.Pairs.{Pair}
use Rattle.dr_ledger_history.specs.Contents.{book_of, content}
use Rattle.dr_world_audit.specs.Hops.{grows_by}
use Rattle.dr_world_audit.specs.Standing.{FitsAt, goals_to}
use Rattle.dr_world_journals.specs.Hops.{standing}
use Rattle.dr_world_audit.proofs.standing.stand_each.Given as goal

abbrev pub invariant-loop-next : goal.invariant-loop-next
invariant-loop-next l = grows_by l.fn.sent.items (standing l.ends.1.now (book_of (content l.told.parts)) (goals_to l.instance.uid (take l.next-index l.to))) l.sent.items
    × ((at : Pair) → Contains (goals_to l.instance.uid (take l.next-index l.to)) at → FitsAt l.ends.0.now.plan l.ends.1.now (book_of (content l.told.parts)) at)
