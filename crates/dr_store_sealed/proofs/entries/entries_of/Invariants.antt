use Rattle.std.proofs.Common.{◌≡◌, ◌+◌, take, All}
use Rattle.dr_store_sealed.specs.Lines.{IsOneLine, bytes_of}
use Rattle.dr_store_sealed.specs.Seals.{seal_after}
use Rattle.dr_store_sealed.proofs.entries.entries_of.Given as goal

abbrev pub invariant-loop-line : goal.invariant-loop-line
invariant-loop-line l =
    (l.last ≡ seal_after l.seal (take l.line-index l.lines))
    × (l.last.number ≡ l.seal.number)
    × (l.last.count ≡ l.seal.count + l.line-index)
    × (l.bytes.items ≡ bytes_of l.seal.chain (take l.line-index l.lines))
    × All IsOneLine (take l.line-index l.lines)
