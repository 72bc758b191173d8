use Rattle.std.proofs.Common.{◌≡◌, ◌++◌, take, flat_map}
use Rattle.dr_run_page.specs.Documents.{recent_row}
use Rattle.dr_run_page.proofs.written.put_recents.Given as goal

abbrev pub invariant-loop-recent : goal.invariant-loop-recent
invariant-loop-recent l =
    l.out.items ≡ l.initial.out.items ++ flat_map recent_row (take l.recent-index l.recents)
