use Rattle.std.proofs.Common.{◌≡◌, take}
use Rattle.std.specs.Prelude.{filter}
use Rattle.dr_word_adopt.specs.Names.{is_besides}
use Rattle.dr_word_adopt.proofs.names.all_besides.Given as goal

abbrev pub invariant-loop-name : goal.invariant-loop-name
invariant-loop-name l = l.ours.items ≡ filter (is_besides l.fn.others) (take l.name-index l.fn.names)
