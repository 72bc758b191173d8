use Rattle.std.proofs.Common.{◌≡◌, ℕ, true, Contains, take}
use Rattle.std.specs.BTreeSet as sorted
use Rattle.dr_base.specs.Texts.{Text}
use Rattle.dr_ledger.specs.declared.item.Progress.TheVariants.{Waiting}
use Rattle.dr_ledger_memory.specs.Dues.{Grows, due_cmp}
use Rattle.dr_ledger_memory.proofs.waiting.expect.Given as goal

abbrev pub invariant-loop-row : goal.invariant-loop-row
invariant-loop-row l = Grows l.fn.keys l.keys
    × ((dest : Text) (tries due : ℕ) → Contains (take l.row-index l.rows) (dest, Waiting tries due) → sorted.contains due_cmp l.keys (dest, (due, l.uid)) ≡ true)
