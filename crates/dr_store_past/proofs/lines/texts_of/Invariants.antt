use Rattle.std.proofs.Common.{◌≡◌, ◌+◌, take, All}
use Rattle.dr_store_past.specs.Lines.{FitsPast, texts_behind}
use Rattle.dr_store_past.proofs.lines.texts_of.Given as goal

abbrev pub invariant-loop-line : goal.invariant-loop-line
invariant-loop-line l =
    (l.last ≡ l.after + l.line-index)
    × (l.texts.items ≡ texts_behind l.after (take l.line-index l.lines))
    × All FitsPast (take l.line-index l.lines)
