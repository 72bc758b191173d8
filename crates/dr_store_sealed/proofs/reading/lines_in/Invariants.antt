use Rattle.std.proofs.Common.{◌≡◌, ◌++◌, All, length}
use Rattle.dr_store_sealed.specs.Files.{Spans}
use Rattle.dr_store_sealed.specs.Lines.{IsOneLine, bytes_of}
use Rattle.dr_store_sealed.proofs.reading.lines_in.Given as goal

-- the piece is the lines so far and what is left of it
abbrev pub invariant-loop-entry : goal.invariant-loop-entry
invariant-loop-entry l =
    (l.piece ≡ bytes_of l.from.chain l.lines.items ++ l.rest)
    × Spans l.from l.lines.items l.last
    × All IsOneLine l.lines.items

abbrev pub decreases-loop-entry : goal.decreases-loop-entry
decreases-loop-entry l = length l.rest
