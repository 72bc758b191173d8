use Rattle.std.proofs.Common.{take}
use Rattle.std.specs.Prelude.{map as mapped}
use Rattle.dr_ledger_history.specs.Contents.{content}
use Rattle.dr_ledger_history.specs.Lines.{line_of}
use Rattle.dr_ledger_history.specs.Told.{IsTold}
use Rattle.dr_world_audit.proofs.replay.tell_past.Given as goal

abbrev pub invariant-loop-line : goal.invariant-loop-line
invariant-loop-line l = IsTold (mapped line_of (take l.line-index l.lines)) (content l.history.parts)
