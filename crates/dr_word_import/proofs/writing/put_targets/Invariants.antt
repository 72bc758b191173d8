use Rattle.std.proofs.Common.{◌≡◌, ◌++◌, take}
use Rattle.std.specs.Prelude.{flat_map}
use Rattle.dr_word_import.specs.Tables.{target_item}
use Rattle.dr_word_import.proofs.writing.put_targets.Given as goal

abbrev pub invariant-loop-it : goal.invariant-loop-it
invariant-loop-it l = l.out.items ≡ l.initial.out.items ++ flat_map target_item (take l.it-index l.all)
