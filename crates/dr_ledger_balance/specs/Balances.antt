-- What the first lines of a journal made, and how many they were, as a text.
use Rattle.std.specs.Prelude.{[], All}
use Rattle.dr_base.specs.Texts.{Text}
use Rattle.dr_ledger_balance.specs.Fields.{FitsField, FitsNumber}
use Rattle.dr_ledger_balance.specs.Orders.{AreItemsInOrder, ArePairsInOrder, AreRowsInOrder}
use Rattle.dr_ledger_balance.specs.Orders.{AreTextsInOrder}
use Rattle.dr_ledger_balance.specs.Pieces.{all_spelled}
use Rattle.dr_ledger_balance.specs.Sealing.{sealed}
use Rattle.dr_ledger_balance.specs.Spelling.{FitsArrival, FitsItem, FitsRow, arrival_then}
use Rattle.dr_ledger_balance.specs.Spelling.{end_then, item_then, kept_then, row_then}
use Rattle.dr_ledger_balance.specs.declared.balance.Balance.{Balance}

-- its lines: instances, arrivals, kept uids, rows, and how many lines of a journal made them
abbrev pub body_of : Balance → Text
body_of b =
    all_spelled item_then b.items
    (all_spelled arrival_then b.arrivals
    (all_spelled kept_then b.kept (all_spelled row_then b.rows (end_then b.count []))))

-- all of it, with the SHA-256 of its lines behind them
abbrev pub balance_text : Balance → Text
balance_text b = sealed (body_of b)

-- as a program has it: its numbers fit
pub record FitsBalance (b : Balance) : Type 0 where
  pub items : All FitsItem b.items
  pub arrivals : All FitsArrival b.arrivals
  pub kept : All FitsField b.kept
  pub rows : All FitsRow b.rows
  pub count : FitsNumber b.count

-- its lists are in the order of their keys, each key once
pub record IsInOrder (b : Balance) : Type 0 where
  pub items : AreItemsInOrder b.items
  pub arrivals : ArePairsInOrder b.arrivals
  pub kept : AreTextsInOrder b.kept
  pub rows : AreRowsInOrder b.rows
