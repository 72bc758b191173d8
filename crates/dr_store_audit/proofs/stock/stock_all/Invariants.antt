use Rattle.std.proofs.Common.{drop}
use Rattle.std.specs.FinMap as map
use Rattle.std.specs.FinMap.{FinMap}
use Rattle.dr_base.specs.Texts.{text_cmp}
use Rattle.dr_ledger.specs.declared.item.Instance.{Instance}
use Rattle.dr_ledger_history.specs.Trees.{as_map}
use Rattle.dr_store_audit.specs.Stock.{Stocks}
use Rattle.dr_store_audit.proofs.stock.stock_all.Given as goal

abbrev pub invariant-loop-i : goal.invariant-loop-i
invariant-loop-i l = (after : FinMap text_cmp Instance) → Stocks (as_map text_cmp l.items) (drop l.i l.keys) (drop l.i l.prints) after → Stocks map.empty l.keys l.prints after
