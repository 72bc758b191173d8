use Rattle.std.proofs.Common.{◌≡◌, T, drop}
use Rattle.std.specs.FinMap.{is_sorted}
use Rattle.dr_base.specs.Texts.{text_cmp}
use Rattle.dr_ledger_memory.specs.Entries.{filled}
use Rattle.dr_ledger_memory.proofs.holding.filled.Given as goal

abbrev pub invariant-loop-name : goal.invariant-loop-name
invariant-loop-name l = T (is_sorted text_cmp l.all.items) × (filled l.all.items (drop l.name-index l.to) ≡ filled l.rows l.to)
