use Rattle.std.proofs.Common.{◌≤◌, length}
use Rattle.dr_word_audit_at.specs.Pages.{GrowsBy, HasLineOf}
use Rattle.dr_word_audit_at.proofs.paging.add_lines.Given as goal

abbrev pub invariant-loop-line : goal.invariant-loop-line
invariant-loop-line l = GrowsBy (HasLineOf l.text) l.initial.lines l.lines × (length l.lines ≤ l.count)
