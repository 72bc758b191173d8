use Rattle.std.proofs.Common.{◌≡◌, ◌++◌, take, flat_map}
use Rattle.dr_ledger_text.specs.Lines.{further_name}
use Rattle.dr_ledger_text.proofs.line.put_others.Given as goal

abbrev pub invariant-loop-name : goal.invariant-loop-name
invariant-loop-name l = l.out.items ≡ l.initial.out.items ++ flat_map further_name (take l.name-index l.names)
