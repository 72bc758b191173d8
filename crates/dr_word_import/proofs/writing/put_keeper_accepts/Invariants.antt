use Rattle.std.proofs.Common.{◌≡◌, ◌++◌, take}
use Rattle.std.specs.Prelude.{flat_map}
use Rattle.dr_word_import.specs.Tables.{accept_behind}
use Rattle.dr_word_import.proofs.writing.put_keeper_accepts.Given as goal

abbrev pub invariant-loop-it : goal.invariant-loop-it
invariant-loop-it l = l.out.items ≡ l.initial.out.items ++ flat_map (accept_behind l.gate) (take l.it-index l.all)
