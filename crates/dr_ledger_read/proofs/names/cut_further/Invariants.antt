use Rattle.std.proofs.Common.{◌≡◌, ◌++◌, List, All, length, flat_map}
use Rattle.dr_base.specs.Texts.{Text}
use Rattle.dr_ledger_text.specs.Lines.{further_name}
use Rattle.dr_ledger_read.specs.Pieces.{AreBytes}
use Rattle.dr_ledger_read.proofs.names.cut_further.Given as goal

-- the names that were read so far, and what is left
abbrev pub invariant-loop-behind : goal.invariant-loop-behind
invariant-loop-behind l = (names : List Text) × All AreBytes names × (l.text ≡ flat_map further_name names ++ l.rest)

abbrev pub decreases-loop-behind : goal.decreases-loop-behind
decreases-loop-behind l = length l.rest
