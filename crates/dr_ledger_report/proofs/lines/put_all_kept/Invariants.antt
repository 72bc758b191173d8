use Rattle.std.proofs.Common.{◌≡◌, ◌++◌, take}
use Rattle.std.specs.Prelude.{flat_map}
use Rattle.dr_ledger_report.specs.Reports.{kept_line}
use Rattle.dr_ledger_report.proofs.lines.put_all_kept.Given as goal

abbrev pub invariant-loop-one : goal.invariant-loop-one
invariant-loop-one l = l.out.items ≡ l.initial.out.items ++ flat_map kept_line (take l.one-index l.kept)
