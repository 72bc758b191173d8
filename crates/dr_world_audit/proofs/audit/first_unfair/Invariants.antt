use Rattle.std.proofs.Common.{Contains, take}
use Rattle.dr_ledger_history.specs.declared.line.JournalLine.{JournalLine}
use Rattle.dr_ledger_history.specs.Lines.{line_of}
use Rattle.dr_world_audit.specs.Sites.{IsUnfair}
use Rattle.dr_world_audit.proofs.audit.first_unfair.Given as goal

abbrev pub invariant-loop-line : goal.invariant-loop-line
invariant-loop-line l = (line : JournalLine) → Contains (take l.line-index l.lines) line → IsUnfair l.ours.keys (line_of line) → ⊥
