use Rattle.std.proofs.Common.{◌≡◌, ◌++◌, drop}
use Rattle.dr_run_answer.specs.Journals.{lines_text}
use Rattle.dr_run_answer.proofs.journal.put_lines.Given as goal

abbrev pub invariant-loop-line : goal.invariant-loop-line
invariant-loop-line l = l.out.items ++ lines_text l.number (drop l.line-index l.lines) ≡ l.initial.out.items ++ lines_text l.after l.lines
