use Rattle.std.proofs.Common.{◌≡◌, ◌++◌}
use Rattle.dr_base.specs.Texts.{Text}
use Rattle.dr_ledger_balance.specs.Adding.{values_of}
use Rattle.dr_ledger_balance.specs.Pieces.{all_spelled}
use Rattle.dr_ledger_balance.specs.Spelling.{item_then}
use Rattle.dr_ledger_balance.proofs.writing.put_items.Given as goal

-- what is left makes of this what all makes of what was there
abbrev pub invariant-loop-uid : goal.invariant-loop-uid
invariant-loop-uid l = (rest : Text) → l.out.items ++ all_spelled item_then (values_of l._uid-iterator) rest ≡ l.initial.out.items ++ all_spelled item_then (values_of l.items.entries) rest
