use Rattle.std.proofs.Common.{◌≡◌, ◌≤◌, take}
use Rattle.std.specs.Prelude.{map as mapped}
use Rattle.dr_ledger.specs.Histories.{IsBeforeAdoption}
use Rattle.dr_ledger_history.specs.Lines.{line_of}
use Rattle.dr_world_journals.specs.Journals.{until_adoption}
use Rattle.dr_world_audit.proofs.replay.count_past.Given as goal

abbrev pub invariant-loop-i : goal.invariant-loop-i
invariant-loop-i l = (l.end ≤ l.i) × (mapped line_of (take l.end l.lines) ≡ until_adoption (mapped line_of (take l.i l.lines))) × IsBeforeAdoption (mapped line_of (take l.end l.lines))
