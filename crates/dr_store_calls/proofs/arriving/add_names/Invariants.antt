use Rattle.std.proofs.Common.{◌≡◌, ◌++◌, take}
use Rattle.dr_store_calls.proofs.arriving.add_names.Given as goal

abbrev pub invariant-loop-name : goal.invariant-loop-name
invariant-loop-name l = l.all ≡ l.fn.all ++ take l.name-index l.names
