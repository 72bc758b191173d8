use Rattle.std.proofs.Common.{◌≡◌, ◌++◌, take}
use Rattle.dr_word_check.specs.Faults.{tabbed}
use Rattle.dr_word_check.proofs.print.add_fields.Given as goal

abbrev pub invariant-loop-field : goal.invariant-loop-field
invariant-loop-field l = l.line.items ≡ l.initial.line.items ++ tabbed (take l.field-index l.fields)
