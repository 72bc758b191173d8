use Rattle.std.proofs.Common.{All, take}
use Rattle.dr_word_adopt.specs.Beginnings.{HasNoFile}
use Rattle.dr_word_adopt.proofs.beginning.test_none.Given as goal

-- none of the names so far has a file
abbrev pub invariant-loop-name : goal.invariant-loop-name
invariant-loop-name g l = All (HasNoFile (g.O.ShowsFiles.shows l.fn.ledgers) l.fn.folder) (take l.name-index l.fn.names)
