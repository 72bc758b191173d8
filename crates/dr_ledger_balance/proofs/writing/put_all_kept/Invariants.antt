use Rattle.std.proofs.Common.{◌≡◌, ◌++◌}
use Rattle.dr_base.specs.Texts.{Text}
use Rattle.dr_ledger_balance.specs.Pieces.{all_spelled}
use Rattle.dr_ledger_balance.specs.Spelling.{kept_then}
use Rattle.dr_ledger_balance.proofs.writing.put_all_kept.Given as goal

-- what is left makes of this what all makes of what was there
abbrev pub invariant-loop-uid : goal.invariant-loop-uid
invariant-loop-uid l = (rest : Text) → l.out.items ++ all_spelled kept_then l.uid-iterator rest ≡ l.initial.out.items ++ all_spelled kept_then l.kept.keys rest
