use Rattle.std.proofs.Common.{Contains, take}
use Rattle.std.specs.Prelude.{map as mapped}
use Rattle.dr_ledger.specs.Pairs.{Pair}
use Rattle.dr_ledger_history.specs.Contents.{book_of, content}
use Rattle.dr_ledger_history.specs.Lines.{line_of}
use Rattle.dr_world_audit.specs.Hops.{grows_by}
use Rattle.dr_world_audit.specs.Standing.{FitsAt}
use Rattle.dr_world_journals.specs.Hops.{goals, standing}
use Rattle.dr_world_audit.proofs.standing.stand_all.Given as goal

abbrev pub invariant-loop-line : goal.invariant-loop-line
invariant-loop-line l = grows_by l.fn.sent.items (standing l.ends.1.now (book_of (content l.told.parts)) (goals (mapped line_of (take l.line-index l.lines)))) l.sent.items
    × ((at : Pair) → Contains (goals (mapped line_of (take l.line-index l.lines))) at → FitsAt l.ends.0.now.plan l.ends.1.now (book_of (content l.told.parts)) at)
