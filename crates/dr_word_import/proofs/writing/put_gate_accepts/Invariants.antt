use Rattle.std.proofs.Common.{◌≡◌, ◌++◌, take}
use Rattle.std.specs.Prelude.{flat_map}
use Rattle.dr_word_import.specs.Tables.{accept_at_gate}
use Rattle.dr_word_import.proofs.writing.put_gate_accepts.Given as goal

abbrev pub invariant-loop-it : goal.invariant-loop-it
invariant-loop-it l = l.out.items ≡ l.initial.out.items ++ flat_map accept_at_gate (take l.it-index l.all)
