use Rattle.std.proofs.Common.{◌≡◌, ◌++◌, take, flat_map}
use Rattle.dr_desk_workers.specs.Said.{fragment_of}
use Rattle.dr_desk_workers.proofs.said.put_values.Given as goal

abbrev pub invariant-loop-value : goal.invariant-loop-value
invariant-loop-value l =
    l.text.items ≡ l.initial.text.items ++ flat_map fragment_of (take l.value-index l.values)
