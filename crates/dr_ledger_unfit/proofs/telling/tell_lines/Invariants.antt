use Rattle.std.specs.Prelude.{map as mapped}
use Rattle.dr_ledger_history.specs.Contents.{content}
use Rattle.dr_ledger_history.specs.Lines.{line_of}
use Rattle.dr_ledger_history.specs.Told.{IsTold}
use Rattle.dr_ledger_unfit.proofs.telling.tell_lines.Given as goal

-- the lines so far are told
abbrev pub invariant-loop-line : goal.invariant-loop-line
invariant-loop-line l = IsTold (mapped line_of l.yielded) (content l.history.parts)
