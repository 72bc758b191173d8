use Rattle.std.specs.Vec.Iter.{into_iter_items}
use Rattle.dr_ledger_history.specs.Contents.{content}
use Rattle.dr_ledger_history.specs.Lines.{lines_of}
use Rattle.dr_store_begun.proofs.Left.{AreLeft}
use Rattle.dr_store_begun.proofs.pages.tell_page.Given as goal

abbrev pub invariant-loop-line : goal.invariant-loop-line
invariant-loop-line l =
    AreLeft (content l.fn.begun.parts) (lines_of l.fn.page) (content l.told.parts) (lines_of (into_iter_items l.line-iterator))
