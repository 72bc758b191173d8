use Rattle.std.proofs.Common.{drop}
use Rattle.dr_store_views.specs.Spans.{CountsUp}
use Rattle.dr_store_views.proofs.behind.count_up.Given as goal

abbrev pub invariant-loop-note : goal.invariant-loop-note
invariant-loop-note l = CountsUp l.number l.fn.last (drop l.note-index l.fn.notes) → CountsUp l.fn.after l.fn.last l.fn.notes
