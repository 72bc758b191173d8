use Rattle.std.proofs.Common.{◌≡◌, []}
use Rattle.std.specs.BTreeSet as sorted
use Rattle.std.specs.declared.ops.Bound.TheVariants.{Included, Unbounded}
use Rattle.dr_ledger_memory.specs.Dues.{due_cmp, first_waiting}
use Rattle.dr_ledger_memory.proofs.waiting.first_due.Given as goal

abbrev pub invariant-loop-key : goal.invariant-loop-key
invariant-loop-key l = first_waiting l.held l.dest l.now l.key-iterator ≡ first_waiting l.held l.dest l.now (sorted.keys_between due_cmp (Included (l.dest, (0, []))) Unbounded l.keys)
