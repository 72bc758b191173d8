use Rattle.std.proofs.Common.{◌≡◌, ◌++◌, ◌+◌, take, filter, flat_map, length}
use Rattle.std.specs.Prelude.{option_copied}
use Rattle.dr_run_page.specs.Documents.{held_row, is_held}
use Rattle.dr_run_page.proofs.written.put_all_held.Given as goal

abbrev pub invariant-loop-row : goal.invariant-loop-row
invariant-loop-row l =
    (l.out.items
    ≡ l.initial.out.items ++ flat_map (held_row (option_copied l.key)) (filter is_held (take l.row-index l.rows)))
    × (length (filter is_held (take l.row-index l.rows)) + l.left ≡ 100)
