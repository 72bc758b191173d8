use Rattle.std.proofs.Common.{◌≡◌, take}
use Rattle.std.specs.Prelude.{map as mapped}
use Rattle.dr_word_adopt.specs.Names.{text_of}
use Rattle.dr_word_adopt.proofs.names.texts_of.Given as goal

abbrev pub invariant-loop-word : goal.invariant-loop-word
invariant-loop-word l = l.texts.items ≡ mapped text_of (take l.word-index l.fn.words)
