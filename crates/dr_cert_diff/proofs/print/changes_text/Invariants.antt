use Rattle.std.proofs.Common.{◌≡◌, take}
use Rattle.std.specs.Prelude.{flat_map}
use Rattle.dr_cert_diff.specs.Rows.{change_rows}
use Rattle.dr_cert_diff.proofs.print.changes_text.Given as goal

abbrev pub invariant-loop-change : goal.invariant-loop-change
invariant-loop-change l = l.out.items ≡ flat_map change_rows (take l.change-index l.fn.changes)
