use Rattle.std.proofs.Common.{◌≡◌, ◌++◌}
use Rattle.dr_base.specs.Texts.{Text}
use Rattle.dr_ledger_balance.specs.Pieces.{all_spelled}
use Rattle.dr_ledger_balance.specs.Spelling.{arrival_then}
use Rattle.dr_ledger_balance.proofs.writing.put_arrivals.Given as goal

-- what is left makes of this what all makes of what was there
abbrev pub invariant-loop-at : goal.invariant-loop-at
invariant-loop-at l = (rest : Text) → l.out.items ++ all_spelled arrival_then l.at-iterator rest ≡ l.initial.out.items ++ all_spelled arrival_then l.arrivals.keys rest
