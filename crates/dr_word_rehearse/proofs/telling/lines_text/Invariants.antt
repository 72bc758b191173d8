use Rattle.std.proofs.Common.{◌≡◌, take}
use Rattle.std.specs.Prelude.{flat_map}
use Rattle.dr_word_rehearse.specs.Endings.{lines_of}
use Rattle.dr_word_rehearse.proofs.telling.lines_text.Given as goal

abbrev pub invariant-loop-looked : goal.invariant-loop-looked
invariant-loop-looked l = l.out.items ≡ flat_map lines_of (take l.looked-index l.all)
