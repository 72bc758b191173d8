use Rattle.std.proofs.Common.{◌≡◌, ◌++◌, take}
use Rattle.dr_ledger_memory.specs.Contents.{own_rows}
use Rattle.dr_ledger_memory.proofs.ledger.push_rows.Given as goal

abbrev pub invariant-loop-row : goal.invariant-loop-row
invariant-loop-row l = l.all ≡ l.fn.all ++ own_rows l.uid (take l.row-index l.rows)
